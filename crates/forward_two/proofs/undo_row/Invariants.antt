-- What the loop keeps, and its measure.
use Prim.Native.Nat.{◌+◌, ◌-◌, ◌*◌, ◌≤◌, ◌<◌}
use Rattle.picture.specs.Sizes.{macroblocks}
use Rattle.picture.specs.Planes.{Lengths, planes}
use Rattle.forward_two_cores.specs.Blocks.{block_of}
use Rattle.forward_two.specs.Strips.{Carried, Through}
use Rattle.forward_two.proofs.undo_row.Given as goal

abbrev pub invariant-loop-c : goal.invariant-loop-c
invariant-loop-c l =
    let m = l.first in
    let W = m.size.width.0 in
    (l.c ≤ W) × Lengths (macroblocks m.size) (planes l.dc l.low l.high) × Through m.size l.samples (m.r * W + l.c) (block_of l.dc l.low l.high) × (0 < l.c → l.c < W → Carried m.size l.samples m.r l.c m.first l.strip)

abbrev pub decreases-loop-c : goal.decreases-loop-c
decreases-loop-c l = l.first.size.width.0 - l.c
