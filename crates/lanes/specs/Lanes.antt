-- Four squares side by side as four lanes: each row of the squares in a list of sixteen numbers, of which lane l has the four from 12 - 4 l on.
use Rattle.std.specs.Prelude.{ℕ, ◌+◌, ◌-◌, ◌*◌, ◌≤◌, ◌<◌, ◌≡◌, List, ◌++◌, length, ℤ}
use Rattle.lifting.specs.Program.{at, get}
use Rattle.figures.specs.Block.{flat}
use Rattle.transform.specs.Level.{strip, square}

-- the rows' four numbers from place i on, one row after another
abbrev pub rows_at : List ℤ → List ℤ → List ℤ → List ℤ → ℕ → List ℤ
rows_at a b c d i = get (strip 1 i) a ++ get (strip 1 i) b ++ get (strip 1 i) c ++ get (strip 1 i) d

-- the square of lane l
abbrev pub lane_of : List ℤ → List ℤ → List ℤ → List ℤ → ℕ → List ℤ
lane_of a b c d l = rows_at a b c d (12 - 4 * l)

-- the row has four numbers of s for each lane: those of lane l stand from `from` + step * l on
pub record InLanes (s : List ℤ) (step from : ℕ) (row : List ℤ) : Type 0 where
  pub len : length row ≡ 16
  pub own : (l : ℕ) → l < 4 → get (strip 1 (12 - 4 * l)) row ≡ get (strip 1 (from + step * l)) s

-- square l of four, the first at `first` of a grid of w columns, goes by R to square l of 16 columns in `out`
pub record SquareBy (R : List (List ℤ) → List (List ℤ) → Type 0) (grid : List ℤ) (w first : ℕ) (out : List ℤ) (l : ℕ) : Type 0 where
  pub block : List (List ℤ)
  pub made : List (List ℤ)
  pub by : R block made
  pub read : flat block ≡ get (square w (first + 4 * l)) grid
  pub stored : get (square 16 (4 * l)) out ≡ flat made

-- v has n numbers of s, from `from` on, at `to` and after it, and is otherwise the old one
pub record Moved (s : List ℤ) (from n : ℕ) (old : List ℤ) (to : ℕ) (v : List ℤ) : Type 0 where
  pub len : length v ≡ length old
  pub own : (x : ℕ) → x < n → at v (to + x) ≡ at s (from + x)
  pub rest : (i : ℕ) → ¬ ((to ≤ i) × (i < to + n)) → at v i ≡ at old i

-- the place i lies outside the four squares from `first` on, in a grid of w columns
abbrev pub Outside : ℕ → ℕ → ℕ → Type 0
Outside w first i = (r x : ℕ) → r < 4 → x < 16 → ¬ (i ≡ first + r * w + x)

-- the four squares from `first` on of a grid of w columns are those of s, which has 16 columns, and the grid is otherwise the old one
pub record Placed (s old : List ℤ) (w first : ℕ) (v : List ℤ) : Type 0 where
  pub len : length v ≡ length old
  pub own : (l : ℕ) → l < 4 → get (square w (first + 4 * l)) v ≡ get (square 16 (4 * l)) s
  pub rest : (i : ℕ) → Outside w first i → at v i ≡ at old i
