-- What the loop keeps.
use Prim.Native.Nat.{◌*◌, ◌≤◌}
use mathlib.Core.Path.{◌≡◌}
use mathlib.Core.Bool.{false}
use lib.ListN.{length}
use Rattle.lifting.specs.Program.{undo}
use Rattle.figures.specs.Figures.{core}
use Rattle.large_numbers.specs.Small.{Small}
use Rattle.forward_two_cores.specs.Blocks.{block_of, square_in, Among, Replaced}
use Rattle.forward_two_cores.proofs.undo_cores.Given as goal

abbrev pub invariant-loop-r : goal.invariant-loop-r
invariant-loop-r l =
    let W = l.fn.size.width.0 in
    (l.r ≤ l.rows) × (length l.dc ≡ length l.initial.dc) × (length l.low ≡ length l.initial.low) × (length l.high ≡ length l.initial.high)
    × Replaced (Among 0 (l.r * W)) (λ t. undo core (square_in W l.samples t)) (block_of l.initial.dc l.initial.low l.initial.high) (block_of l.dc l.low l.high)
    × (l.at ≡ l.r * (256 * W)) × (l.cells.dc ≡ l.r * W) × (l.large ≡ false → Small l.samples 0 l.at)
