-- Places of level one's grid: two numbers of one square and two of another, and windows over four squares.
use Rattle.std.specs.Prelude.{ℕ, ◌+◌, ◌*◌, ◌<◌, ◌≡◌, List, [], ◌∷◌}
use Rattle.picture.specs.declared.size.Size.{Size}
use Rattle.transform.specs.Grids.{place}
use Rattle.picture.specs.Sizes.{macroblocks}
use Rattle.forward_one_grid.specs.declared.places.Pairs.{Pairs}
use Rattle.forward_one_grid.specs.declared.places.Window.{Window}

-- two numbers of square t, from its coefficient k on, and two of square u, from its coefficient l on, in each `step` apart
abbrev pub from_to : ℕ → ℕ → ℕ → ℕ → ℕ → Pairs
from_to t k u l step = record { t = t; k = k; u = u; l = l; step = step }

abbrev pub pairs : Size → Pairs → List ℕ
pairs size p =
    let W : ℕ = size.width.0 in
    place W p.t p.k ∷ place W p.t (p.k + p.step) ∷ place W p.u p.l ∷ place W p.u (p.l + p.step) ∷ []

-- they lie in the grid
pub record Inside (size : Size) (p : Pairs) : Type 0 where
  pub t : p.t < macroblocks size
  pub u : p.u < macroblocks size
  pub k : p.k + p.step < 16
  pub l : p.l + p.step < 16

-- a window lies over the corner of four squares of the grid, and square t is the first of them
pub record Meets (size : Size) (w : Window) : Type 0 where
  pub below : w.j + 1 < size.height.0
  pub beside : w.i + 1 < size.width.0
  pub first : w.t ≡ w.j * size.width.0 + w.i

-- the window l places to the right
abbrev pub right_of : Window → ℕ → Window
right_of w l = record { j = w.j; i = w.i + l; t = w.t + l }
