-- The number is that of the first fault; what was settled by it is the result where it is 0, and else what was there.
use Rattle.clients.specs.Faults.{InverseFaults}
use Rattle.clients.proofs.Numbers.{inverse-faults}
use Rattle.clients.proofs.FaultLaws.{by_number, taken}
use Rattle.clients.proofs.pictures.client_inverse.Goals as goal

pub returns : goal.returns
returns c =
    let e = c.before.lapped_inverse.ensures in
    let w = taken e.wrapped_value in
    let s = taken e.samples_after in
    record {
      number = by_number (InverseFaults _ _ _ _) e.number_value (inverse-faults _ _ _ _);
      done = λ z. (s.done z, w.done z);
      refused = λ n. (s.refused n, w.refused n);
    }
