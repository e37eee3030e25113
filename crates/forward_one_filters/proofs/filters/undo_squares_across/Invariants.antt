-- What the loop keeps.
use Prim.Native.Nat.{◌*◌, min}
use Rattle.forward_one_filters.specs.Windows.{filter_on}
use Rattle.forward_one_filters.proofs.Undoing.{Undoing}
use Rattle.forward_one_filters.proofs.filters.undo_squares_across.Given as goal

abbrev pub invariant-loop-k : goal.invariant-loop-k
invariant-loop-k l = Undoing l.size (λ i. filter_on l.size l.j i) l.windows l.initial.dc l.initial.low l.dc l.low (min (4 * l.k) l.windows)
