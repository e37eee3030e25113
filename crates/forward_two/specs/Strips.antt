-- How far the strip has gone through a picture: which blocks are done, and which rows are parked for the macroblock row below.
use Rattle.std.specs.Prelude.{ℕ, ◌+◌, ◌*◌, ◌/◌, ◌%◌, ◌<◌, ◌≤◌, ◌≡◌, List, ℤ}
use Rattle.lifting.specs.Program.{at, undo}
use Rattle.figures.specs.Figures.{core}
use Rattle.transform.specs.Level.{cell}
use Rattle.picture.specs.Sizes.{macroblocks}
use Rattle.picture.specs.declared.size.Size.{Size}
use Rattle.forward_two_cores.specs.Blocks.{square_in, Among}
use Rattle.forward_two_parked.specs.Parked.{place_in}
use Rattle.forward_two_edges.specs.Unfiltered.{unfiltered}

-- columns 64 and 65 hold the first two columns of macroblock c
pub record Carried (size : Size) (samples : List ℤ) (r c first : ℕ) (strip : List ℤ) : Type 0 where
  pub there : (y x : ℕ) → first ≤ y → y < 18 → x < 2 → 16 * r + y < 16 * size.height.0
      → at strip (72 * y + 64 + x) ≡ at (unfiltered size samples) (cell (4 * size.width.0) (16 * r + y) (16 * c + x))

-- the first n macroblocks are done, and the upper blocks of the next row of them hold the numbers that they begin with, but for the first row of a picture
pub record Through (size : Size) (samples : List ℤ) (n : ℕ) (blocks : ℕ → List ℤ) : Type 0 where
  pub done : (t : ℕ) → t / 16 < n → blocks t ≡ undo core (square_in size.width.0 (unfiltered size samples) t)
  pub parked : (t j : ℕ) → n ≤ t / 16 → t / 16 < n + size.width.0 → size.width.0 ≤ t / 16 → t / 16 < macroblocks size → t % 16 < 4 → j < 8
      → at (blocks t) j ≡ at (square_in size.width.0 (unfiltered size samples) t) j

-- the upper blocks of macroblocks m to m + n - 1 have rows 16 and 17 of the strip, where the picture has these macroblocks, and all others what they had
pub record Lowered (size : Size) (m n : ℕ) (strip : List ℤ) (old new : ℕ → List ℤ) : Type 0 where
  pub own : (t b j : ℕ) → b < n → t / 16 ≡ m + b → t / 16 < macroblocks size → t % 16 < 4 → j < 8 → at (new t) j ≡ at strip (place_in 16 b (t % 16) j)
  pub others : (t : ℕ) → (Among m (m + n) t → ⊥) → new t ≡ old t
