-- Four windows side by side, unfiltered, in a strip of 72 columns.
use Rattle.std.specs.Prelude.{ℕ, ◌+◌, ◌*◌, ◌/◌, ◌%◌, ◌<◌, ◌≡◌, List, length, ℤ}
use Rattle.lifting.specs.Program.{at, get, undo}
use Rattle.figures.specs.Figures.{square_filter}
use Rattle.transform.specs.Level.{square}
use Rattle.lanes.specs.Lanes.{Outside}

-- the window whose first number stands at place i of a grid of w columns, its filter undone
unfoldable pub window_at : List ℤ → ℕ → ℕ → List ℤ
window_at grid w i = undo square_filter (get (square w i) grid)

-- four windows of the grid, the first at place i, unfiltered at place `to` of the strip; all other numbers are what they were
pub record Windows (grid : List ℤ) (w i to : ℕ) (old new : List ℤ) : Type 0 where
  pub len : length new ≡ length old
  pub own : (y x : ℕ) → y < 4 → x < 16 → at new (to + 72 * y + x) ≡ at (window_at grid w (i + 4 * (x / 4))) (4 * y + x % 4)
  pub others : (j : ℕ) → Outside 72 to j → at new j ≡ at old j
