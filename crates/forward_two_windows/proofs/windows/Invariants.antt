-- What the loop keeps.
use Prim.Native.Nat.{◌+◌, ◌*◌, ◌≤◌}
use Rattle.forward_two_edges.specs.Strip.{Holds, Kept, Stands}
use Rattle.forward_two_windows.proofs.windows.Given as goal

abbrev pub invariant-loop-v : goal.invariant-loop-v
invariant-loop-v l =
    (l.v ≤ l.down) × Holds l.here.size l.samples l.here.r l.here.c 2 (4 * l.v + 2) 2 (4 * l.n + 2) l.strip × Kept 2 (4 * l.down + 2) 2 72 l.initial.strip l.strip
    × Stands l.here.size l.here.r l.here.c (4 * l.v + 2) 0 l.row
