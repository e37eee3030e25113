-- What the loop keeps.
use Prim.Native.Nat.{◌+◌, ◌*◌, ◌≤◌}
use mathlib.Core.Path.{◌≡◌}
use mathlib.Core.Bool.{false}
use lib.ListN.{length}
use Rattle.lifting.specs.Program.{undo}
use Rattle.figures.specs.Figures.{core}
use Rattle.large_numbers.specs.Small.{Small}
use Rattle.forward_two_cores.specs.Blocks.{block_of, square_in, InRows, Replaced}
use Rattle.forward_two_cores.proofs.undo_row.Given as goal

abbrev pub invariant-loop-k : goal.invariant-loop-k
invariant-loop-k l =
    let W = l.size.width.0 in
    (l.k ≤ 4) × (length l.dc ≡ length l.initial.dc) × (length l.low ≡ length l.initial.low) × (length l.high ≡ length l.initial.high)
    × Replaced (InRows 0 l.k l.cells.dc (l.cells.dc + W)) (λ t. undo core (square_in W l.samples t)) (block_of l.initial.dc l.initial.low l.initial.high) (block_of l.dc l.low l.high)
    × (l.row ≡ l.at + l.k * (64 * W)) × (l.large ≡ false → Small l.samples l.at l.row)
