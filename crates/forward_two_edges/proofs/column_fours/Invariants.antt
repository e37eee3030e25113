-- What the loop keeps.
use Prim.Native.Nat.{◌+◌, ◌*◌, ◌≤◌}
use mathlib.Core.Path.{◌≡◌}
use Rattle.forward_two_edges.specs.Strip.{Columns}
use Rattle.forward_two_edges.proofs.Strips.{fours_down}
use Rattle.forward_two_edges.proofs.column_fours.Given as goal

abbrev pub invariant-loop-l : goal.invariant-loop-l
invariant-loop-l l =
    (l.l ≤ l.n) × (l.next.samples ≡ l.initial.next.samples + 4 * l.w * l.l) × Columns l.initial.next.strip (4 * l.l) (fours_down l.samples l.w l.initial.next.samples) l.initial.strip l.strip × (l.next.strip ≡ l.initial.next.strip + 288 * l.l)
