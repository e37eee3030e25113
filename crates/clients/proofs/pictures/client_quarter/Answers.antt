-- As for the inverse.
use Rattle.clients.specs.Faults.{QuarterFaults}
use Rattle.clients.proofs.Numbers.{quarter-faults}
use Rattle.clients.proofs.FaultLaws.{by_number, taken}
use Rattle.clients.proofs.pictures.client_quarter.Goals as goal

pub returns : goal.returns
returns c =
    let e = c.before.lapped_quarter.ensures in
    let w = taken e.wrapped_value in
    let s = taken e.view_after in
    record {
      number = by_number (QuarterFaults _ _ _ _ _) e.number_value (quarter-faults _ _ _ _ _);
      done = λ z. (s.done z, w.done z);
      refused = λ n. (s.refused n, w.refused n);
    }
