-- Parts of a level's filters that may run apart: rows of windows, as soon as the squares above and below them are transformed, and the filters of the edges.
use Rattle.std.specs.Prelude.{ℕ, ◌+◌, ◌-◌, ◌*◌, Bool, true, false}
use Rattle.lifting.specs.Program.{Program, end, each}
use Rattle.transform.specs.Level.{cell, square_filter_at, edge_filters}

-- the windows between rows j and j + 1 of the squares
abbrev pub window_row : ℕ → ℕ → Program
window_row p j = each (p - 1) (λ i. square_filter_at (4 * p) (cell p (4 * j + 2) (4 * i + 2)))

-- the n rows of windows from b on
abbrev pub windows_if : Bool → ℕ → ℕ → ℕ → Program
windows_if true p b n = each n (λ k. window_row p (b + k))
windows_if false p b n = end

abbrev pub edges_if : Bool → ℕ → ℕ → Program
edges_if true p q = edge_filters p q
edges_if false p q = end
