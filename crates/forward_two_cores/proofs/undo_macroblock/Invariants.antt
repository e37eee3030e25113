-- What the loop keeps.
use Prim.Native.Nat.{◌+◌, ◌*◌, ◌%◌, ◌≤◌}
use mathlib.Core.Path.{◌≡◌}
use lib.ListN.{length}
use Rattle.forward_two_cores.specs.Blocks.{block_of, undone_in, InRows, Replaced}
use Rattle.forward_two_cores.proofs.undo_macroblock.Given as goal

abbrev pub invariant-loop-k : goal.invariant-loop-k
invariant-loop-k l =
    (l.k ≤ 4) × (length l.dc ≡ length l.initial.dc) × (length l.low ≡ length l.initial.low) × (length l.high ≡ length l.initial.high)
    × Replaced (InRows 0 l.k l.cells.dc (l.cells.dc + 1)) (λ t. undone_in l.w l.at l.grid (t % 16)) (block_of l.initial.dc l.initial.low l.initial.high) (block_of l.dc l.low l.high)
    × (l.row ≡ l.at + l.k * (4 * l.w)) × (l.from ≡ l.cells.high + 60 * l.k)
