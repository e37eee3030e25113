-- What the loop keeps.
use Prim.Native.Nat.{◌+◌, ◌*◌, ◌<◌}
use Rattle.forward_two_edges.specs.Strip.{Stands}
use Rattle.forward_two_edges.proofs.Strips.{Made}
use Rattle.forward_two_edges.proofs.edge_rows.Given as goal

abbrev pub invariant-loop-y : goal.invariant-loop-y
invariant-loop-y l =
    Made l.here.size l.samples l.here.r l.here.c l.top l.bottom 2 (4 * l.n + 2) l.y l.initial.strip l.strip × (l.y < l.bottom → Stands l.here.size l.here.r l.here.c l.y 0 l.row)
