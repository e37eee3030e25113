-- The samples of a picture with the filters of level two undone, and rectangles of its grid.
use Rattle.std.specs.Prelude.{ℕ, ◌+◌, ◌-◌, ◌*◌, ◌/◌, ◌%◌, ◌≤◌, ◌<◌, ◌≡◌, List, ◌⊎◌, ℤ}
use Rattle.lifting.specs.Program.{undo}
use Rattle.transform.specs.Level.{filters}
use Rattle.picture.specs.declared.size.Size.{Size}

unfoldable pub unfiltered : Size → List ℤ → List ℤ
unfiltered size samples = undo (filters (4 * size.width.0) (4 * size.height.0)) samples

-- place i of a grid of p squares across lies in these rows and columns, the last of each not counted
pub record Rectangle (p top bottom left right i : ℕ) : Type 0 where
  pub row_from : top ≤ i / (4 * p)
  pub row_to : i / (4 * p) < bottom
  pub column_from : left ≤ i % (4 * p)
  pub column_to : i % (4 * p) < right

-- the two rows, or columns, at an edge of n squares
abbrev pub Edge : ℕ → ℕ → Type 0
Edge n y = (y < 2) ⊎ (4 * n ≤ y + 2)

-- the first of the two
abbrev pub First : ℕ → ℕ → Type 0
First n y = (y ≡ 0) ⊎ (y ≡ 4 * n - 2)
