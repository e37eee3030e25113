-- What the loop keeps.
use Prim.Native.Nat.{◌+◌, ◌≤◌}
use mathlib.Core.Path.{◌≡◌}
use lib.ListN.{length}
use Rattle.lifting.specs.Program.{undo}
use Rattle.figures.specs.Figures.{core}
use Rattle.forward_two_cores.specs.Blocks.{block_of, square_in, InRows, Replaced}
use Rattle.forward_two_cores.proofs.undo_block_row.Given as goal

abbrev pub invariant-loop-c : goal.invariant-loop-c
invariant-loop-c l =
    (l.c ≤ l.columns) × (length l.dc ≡ length l.initial.dc) × (length l.low ≡ length l.initial.low) × (length l.high ≡ length l.initial.high)
    × Replaced (InRows l.k (l.k + 1) l.cells.dc (l.cells.dc + l.c)) (λ t. undo core (square_in l.fn.size.width.0 l.samples t)) (block_of l.initial.dc l.initial.low l.initial.high) (block_of l.dc l.low l.high)
