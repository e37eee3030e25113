-- What the loop keeps, and its measure.
use Prim.Native.Nat.{ℕ, ◌*◌, ◌≤◌, ◌<◌}
use mathlib.Core.Path.{◌≡◌}
use mathlib.Core.Bool.{Bool, false}
use mathlib.Core.List.{List}
use lib.ListN.{length, take}
use lib.IntN.{ℤ}
use Rattle.lifting.specs.Program.{run}
use Rattle.transform.specs.Grids.{grid}
use Rattle.picture.specs.Sizes.{macroblocks}
use Rattle.picture.specs.declared.size.Size.{Size}
use Rattle.large_numbers.specs.Small.{Small}
use Rattle.inverse_two.specs.Blocks.{block_numbers, cored}
use Rattle.inverse_two.proofs.Windows.{squares_if}
use Rattle.inverse_two.proofs.Reached.{Reached}
use Rattle.inverse_two.proofs.level_two.Given as goal

-- the grid of all blocks after their core transforms
abbrev pub blocks : Size → List ℤ → List ℤ → List ℤ
blocks size old high = grid (4 * size.width.0) (4 * size.height.0) (cored (block_numbers size.width.0 (take (16 * macroblocks size) old) high))

abbrev pub Up : Bool → Size → List ℤ → List ℤ → ℕ → List ℤ → Type 0
Up filtered size old high y v =
    Reached (4 * size.width.0) (4 * size.height.0) old (blocks size old high) (run (squares_if filtered (4 * size.width.0) (4 * size.height.0)) (blocks size old high)) y v

abbrev pub invariant-loop-r : goal.invariant-loop-r
invariant-loop-r l =
    (0 < l.r) × (l.r ≤ l.fn.size.height.0) × (l.r < l.fn.size.height.0 → l.windows ≡ 4) × (l.r ≡ l.fn.size.height.0 → l.windows ≡ 3) × Up l.filtered l.fn.size l.initial.samples l.high (4 * l.r) l.samples
    × (l.cells.samples ≡ l.r * (256 * l.fn.size.width.0)) × (l.cells.numbers ≡ l.r * (16 * l.fn.size.width.0)) × (l.cells.high ≡ l.r * (240 * l.fn.size.width.0))
    × (l.large ≡ false → Small l.high l.cells.high (length l.high))
