-- What the loop keeps.
use Prim.Native.Nat.{ℕ, ◌+◌, ◌*◌, ◌/◌, ◌%◌, ◌≤◌, ◌<◌}
use mathlib.Core.Path.{◌≡◌}
use lib.ListN.{length}
use Rattle.forward_two_cores.specs.Blocks.{block_of, undone_in, Among}
use Rattle.forward_two.proofs.cores.Given as goal

abbrev pub invariant-loop-b : goal.invariant-loop-b
invariant-loop-b l =
    (l.b ≤ l.n) × (length l.dc ≡ length l.initial.dc) × (length l.low ≡ length l.initial.low) × (length l.high ≡ length l.initial.high)
    × ((t i : ℕ) → i < l.b → t / 16 ≡ l.cells.dc + i → block_of l.dc l.low l.high t ≡ undone_in 72 (16 * i) l.strip (t % 16)) × ((t : ℕ) → (Among l.cells.dc (l.cells.dc + l.b) t → ⊥) → block_of l.dc l.low l.high t ≡ block_of l.initial.dc l.initial.low l.initial.high t)
