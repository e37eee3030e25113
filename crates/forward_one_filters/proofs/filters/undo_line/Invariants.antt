-- What the loop keeps.
use Prim.Native.Nat.{◌+◌, ◌*◌}
use mathlib.Core.Path.{◌≡◌}
use Rattle.forward_one_filters.specs.Edges.{filter_of, use_at}
use Rattle.forward_one_filters.proofs.Undoing.{Undoing}
use Rattle.forward_one_filters.proofs.filters.undo_line.Given as goal

abbrev pub invariant-loop-i : goal.invariant-loop-i
invariant-loop-i l =
    Undoing l.size (λ i. filter_of l.size (use_at l.uses (l.uses.from + l.uses.pace * i))) l.uses.n l.initial.dc l.initial.low l.dc l.low l.i × (l.t ≡ l.uses.from + l.uses.pace * l.i)
