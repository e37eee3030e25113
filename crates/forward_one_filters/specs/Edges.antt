-- The filters along a grid's edges and at its corners as the functions that undo them take them, two numbers of one square and two of another: a line of uses,
-- each across the edge between two squares, goes along a row or down a column, and a corner lies in one square.
use Rattle.std.specs.Prelude.{ℕ, ◌+◌, ◌*◌}
use Rattle.lifting.specs.Program.{Program, end, apply, ◌then◌, each, FourFilter}
use Rattle.figures.specs.Figures.{four_filter}
use Rattle.picture.specs.declared.size.Size.{Size}
use Rattle.forward_one_grid.specs.declared.places.Pairs.{Pairs}
use Rattle.forward_one_grid.specs.Places.{pairs, from_to}
use Rattle.forward_one_filters.specs.declared.lines.Line.{Line}
use Rattle.forward_one_filters.specs.declared.lines.Edges.{Edges}

-- Figure 4.13 on two numbers of one square and two of another
unfoldable pub filter_of : Size → Pairs → Program
filter_of size p = apply FourFilter four_filter (pairs size p) end

-- the use of a line that is across the edge between square t and the next: it has the last two numbers of the line in the one square and the first two in the other
abbrev pub use_at : Line → ℕ → Pairs
use_at uses t = from_to t (uses.l + 2 * uses.step) (t + uses.pace) uses.l uses.step

-- n uses, between squares `from` and from + pace, the next two, and so on: in each square a line starts at coefficient l and goes on by `step`, 1 along a row
-- and 4 down a column
unfoldable pub line : Size → Line → Program
line size uses = each uses.n (λ i. filter_of size (use_at uses (uses.from + uses.pace * i)))

abbrev pub edges_of : ℕ → ℕ → ℕ → ℕ → ℕ → Edges
edges_of far pace side step n = record { far = far; pace = pace; side = side; step = step; n = n }

abbrev pub line_of : Edges → ℕ → ℕ → Line
line_of lines from k = record { from = from; pace = lines.pace; l = k * lines.side; step = lines.step; n = lines.n }

-- two lines at each of two edges: the first two of the squares from 0 on, and the last two of the squares from `far` on.
-- Lines stand `side` apart; along rows that is 4 and the step 1, down columns it is 1 and the step 4.
unfoldable pub edges : Size → Edges → Program
edges size lines =
    line size (line_of lines 0 0) then line size (line_of lines 0 1) then line size (line_of lines lines.far 2) then line size (line_of lines lines.far 3)

-- the corners of the grid, in the squares at its corners: 0 and `right` in the top row, `bottom` and `last` in the bottom row
unfoldable pub corners : Size → ℕ → ℕ → ℕ → Program
corners size right bottom last =
    filter_of size (from_to 0 0 0 4 1) then filter_of size (from_to right 2 right 6 1) then filter_of size (from_to bottom 8 bottom 12 1) then filter_of size (from_to last 10 last 14 1)
