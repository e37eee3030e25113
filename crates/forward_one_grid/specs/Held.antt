-- Level one's grid as it lies in two slices: square t is macroblock t, in raster order. Its coefficient 0 is its DC number, and its
-- coefficients 1 to 15 are its low-pass numbers (01, "Both levels").
use Rattle.std.specs.Prelude.{ℕ, ◌+◌, ◌*◌, ◌≡◌, List, length, ℤ}
use Rattle.picture.specs.declared.size.Size.{Size}
use Rattle.lifting.specs.Program.{Program}
use Rattle.transform.specs.Level.{cell, square}
use Rattle.transform.specs.Grids.{first_grid}
use Rattle.picture.specs.Sizes.{macroblocks}

abbrev pub numbers : Size → List ℤ → List ℤ → List ℤ
numbers size dc low = first_grid size.width.0 size.height.0 dc low

-- a stage of the whole grid
abbrev pub over : Size → (ℕ → ℕ → Program) → Program
over size stage = stage size.width.0 size.height.0

-- two slices of a picture's lengths
pub record Held (size : Size) (dc low : List ℤ) : Type 0 where
  pub of-dc : length dc ≡ macroblocks size
  pub of_low : length low ≡ 15 * macroblocks size

-- level one's grid: its size and its numbers in raster order
pub record Grid : Type 0 where
  pub size : Size
  pub numbers : List ℤ

abbrev pub grid : Size → List ℤ → List ℤ → Grid
grid size dc low = record { size = size; numbers = numbers size dc low }

-- window (j, i) lies over the corner of squares (j, i), (j, i + 1), (j + 1, i) and (j + 1, i + 1): the place of its first number, and all its places
abbrev pub window_start : Size → ℕ → ℕ → ℕ
window_start size j i = cell size.width.0 (4 * j + 2) (4 * i + 2)

abbrev pub window : Size → ℕ → ℕ → List ℕ
window size j i = square (4 * size.width.0) (window_start size j i)
