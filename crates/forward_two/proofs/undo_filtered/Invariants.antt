-- What the loop keeps.
use Prim.Native.Nat.{◌*◌, ◌≤◌}
use mathlib.Core.Path.{◌≡◌}
use mathlib.Core.Bool.{false}
use Rattle.picture.specs.Sizes.{macroblocks}
use Rattle.picture.specs.Planes.{Lengths, planes}
use Rattle.large_numbers.specs.Small.{Small}
use Rattle.forward_two_cores.specs.Blocks.{block_of}
use Rattle.forward_two.specs.Strips.{Through}
use Rattle.forward_two.proofs.undo_filtered.Given as goal

abbrev pub invariant-loop-r : goal.invariant-loop-r
invariant-loop-r l =
    let W = l.fn.size.width.0 in
    (l.r ≤ l.rows) × Lengths (macroblocks l.fn.size) (planes l.dc l.low l.high) × Through l.fn.size l.samples (l.r * W) (block_of l.dc l.low l.high) × (l.at ≡ l.r * (256 * W)) × (l.cells.dc ≡ l.r * W)
    × (l.large ≡ false → Small l.samples 0 l.at)
