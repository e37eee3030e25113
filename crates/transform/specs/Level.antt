-- One level of the transform, on a grid of p squares across and q down, its numbers in raster order (01, "One level").
use Rattle.std.specs.Prelude.{ℕ, ◌+◌, ◌-◌, ◌*◌, Bool, true, false, List, [], ◌∷◌, ◌++◌}
use Rattle.lifting.specs.Program.{Program, end, apply, ◌then◌, each, Core, SquareFilter, FourFilter}
use Rattle.figures.specs.Figures.{core, square_filter, four_filter}

-- the place of row r, column c
abbrev pub cell : ℕ → ℕ → ℕ → ℕ
cell p r c = r * (4 * p) + c

-- four places from `at` on, each `step` after the one before
abbrev pub strip : ℕ → ℕ → List ℕ
strip step at = at ∷ (at + step) ∷ (at + step + step) ∷ (at + step + step + step) ∷ []

-- the 4 x 4 square whose first place is `at`, and the 2 x 2 one, row by row, in a grid of `w` columns
unfoldable pub square : ℕ → ℕ → List ℕ
square w at = strip 1 at ++ strip 1 (at + w) ++ strip 1 (at + w + w) ++ strip 1 (at + w + w + w)

abbrev pub corner : ℕ → ℕ → List ℕ
corner w at = at ∷ (at + 1) ∷ (at + w) ∷ (at + w + 1) ∷ []

unfoldable pub core_at : ℕ → ℕ → Program
core_at w at = apply Core core (square w at) end

unfoldable pub square_filter_at : ℕ → ℕ → Program
square_filter_at w at = apply SquareFilter square_filter (square w at) end

unfoldable pub four_filter_at : ℕ → ℕ → Program
four_filter_at step at = apply FourFilter four_filter (strip step at) end

unfoldable pub corner_filter_at : ℕ → ℕ → Program
corner_filter_at w at = apply FourFilter four_filter (corner w at) end

-- the core transform on every aligned square
unfoldable pub cores : ℕ → ℕ → Program
cores p q = each q (λ j. each p (λ i. core_at (4 * p) (cell p (4 * j) (4 * i))))

-- Figure 4.14 on every square whose first row and column both leave 2 on division by 4 and which lies wholly inside
unfoldable pub square_filters : ℕ → ℕ → Program
square_filters p q = each (q - 1) (λ j. each (p - 1) (λ i. square_filter_at (4 * p) (cell p (4 * j + 2) (4 * i + 2))))

-- Figure 4.13 on columns 4 i + 2 to 4 i + 5 of row r, and on rows 4 j + 2 to 4 j + 5 of column c, wherever those four exist
unfoldable pub row_filters : ℕ → ℕ → Program
row_filters p r = each (p - 1) (λ i. four_filter_at 1 (cell p r (4 * i + 2)))

unfoldable pub column_filters : ℕ → ℕ → ℕ → Program
column_filters p q c = each (q - 1) (λ j. four_filter_at (4 * p) (cell p (4 * j + 2) c))

-- a line of filters in each of the first two and the last two of 4 n lines
abbrev pub along_edges : ℕ → (ℕ → Program) → Program
along_edges n line = line 0 then line 1 then line (4 * n - 2) then line (4 * n - 1)

-- Figure 4.13 on the corners: rows 0 and 1 and the last two, columns 0 and 1 and the last two (02, f)
unfoldable pub corner_filters : ℕ → ℕ → Program
corner_filters p q =
    corner_filter_at (4 * p) (cell p 0 0) then corner_filter_at (4 * p) (cell p 0 (4 * p - 2))
    then corner_filter_at (4 * p) (cell p (4 * q - 2) 0) then corner_filter_at (4 * p) (cell p (4 * q - 2) (4 * p - 2))

-- the top two and bottom two rows, the two leftmost and two rightmost columns, and the corners that these rows and columns share
abbrev pub edge_filters : ℕ → ℕ → Program
edge_filters p q = along_edges q (row_filters p) then along_edges p (column_filters p q) then corner_filters p q

unfoldable pub filters : ℕ → ℕ → Program
filters p q = square_filters p q then edge_filters p q

abbrev pub filters_if : Bool → ℕ → ℕ → Program
filters_if true p q = filters p q
filters_if false p q = end

unfoldable pub level : Bool → ℕ → ℕ → Program
level filtered p q = cores p q then filters_if filtered p q
