-- The square filters of level one's windows: one, some side by side, and those between two rows of squares.
use Rattle.std.specs.Prelude.{ℕ, ◌+◌, ◌-◌, ◌*◌, ◌<◌, ◌≤◌, ◌≡◌}
use Rattle.lifting.specs.Program.{Program, each}
use Rattle.picture.specs.declared.size.Size.{Size}
use Rattle.transform.specs.Level.{square_filter_at}
use Rattle.forward_one_grid.specs.declared.places.Window.{Window}
use Rattle.forward_one_grid.specs.Held.{window_start}

-- Figure 4.14 on window (j, i)
abbrev pub filter_on : Size → ℕ → ℕ → Program
filter_on size j i = square_filter_at (4 * size.width.0) (window_start size j i)

-- on n windows from (j, i) on
abbrev pub filters_on : Size → ℕ → ℕ → ℕ → Program
filters_on size j i n = each n (λ l. filter_on size j (i + l))

-- on all windows between the squares in rows j and j + 1
abbrev pub filters_of_row : Size → ℕ → Program
filters_of_row size j = each (size.width.0 - 1) (λ i. filter_on size j i)

-- n windows side by side, of which the first begins in square t: at most as many as there are lanes
pub record Group (size : Size) (w : Window) (n : ℕ) : Type 0 where
  pub below : w.j + 1 < size.height.0
  pub beside : w.i + n < size.width.0
  pub first : w.t ≡ w.j * size.width.0 + w.i
  pub lanes : n ≤ 4
