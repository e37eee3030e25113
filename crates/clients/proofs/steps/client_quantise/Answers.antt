-- As for the inverse.
use Rattle.clients.specs.Faults.{QuantiseFaults}
use Rattle.clients.proofs.Numbers.{quantise-faults}
use Rattle.clients.proofs.FaultLaws.{by_number, taken}
use Rattle.clients.proofs.steps.client_quantise.Goals as goal

pub returns : goal.returns
returns c =
    let e = c.before.before.before.lapped_quantise.ensures in
    let s = taken e.high_levels_after in
    record {
      number = by_number (QuantiseFaults _ _ _ _ _) e.value (quantise-faults _ _ _ _ _);
      done = λ z. s.done z;
      refused = λ n. s.refused n;
    }
