-- What is known of the numbers that were looked at.
use Prim.Native.Nat.{◌*◌, ◌<◌}
use Rattle.large_numbers.specs.Small.{AtMost, Fit}
use Rattle.large_numbers.proofs.joined_marks.Given as goal

abbrev pub invariant-loop-x : goal.invariant-loop-x
invariant-loop-x l = (l.joined < 2 * l.limit → AtMost l.limit l.s 0 l.x-index) × Fit l.s 0 l.x-index
