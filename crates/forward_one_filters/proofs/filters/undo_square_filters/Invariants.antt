-- What the loop keeps.
use Prim.Native.Nat.{◌*◌}
use mathlib.Core.Path.{◌≡◌}
use Rattle.forward_one_filters.specs.Windows.{filters_of_row}
use Rattle.forward_one_filters.proofs.Undoing.{Undoing}
use Rattle.forward_one_filters.proofs.filters.undo_square_filters.Given as goal

abbrev pub invariant-loop-j : goal.invariant-loop-j
invariant-loop-j l = Undoing l.size (λ j. filters_of_row l.size j) l.rows l.initial.dc l.initial.low l.dc l.low l.j × (l.t ≡ l.j * l.width)
