-- As for the inverse.
use Rattle.clients.specs.Faults.{ForwardFaults}
use Rattle.clients.proofs.Numbers.{forward-faults}
use Rattle.clients.proofs.FaultLaws.{by_number, taken}
use Rattle.clients.proofs.pictures.client_forward.Goals as goal

pub returns : goal.returns
returns c =
    let e = c.before.before.before.lapped_forward.ensures in
    let w = taken e.wrapped_value in
    let s = taken e.high_after in
    record {
      number = by_number (ForwardFaults _ _ _ _) e.number_value (forward-faults _ _ _ _);
      done = λ z. (s.done z, w.done z);
      refused = λ n. (s.refused n, w.refused n);
    }
