-- Numbers placed one after another in a list; a block's coefficients in an array of four lanes, and in two lists.
use Rattle.std.specs.Prelude.{ℕ, ◌+◌, ◌*◌, ◌<◌, ◌≤◌, ◌≡◌, List, length, ℤ}
use Rattle.lifting.specs.Program.{at, get, undo}
use Rattle.figures.specs.Figures.{core}
use Rattle.transform.specs.Level.{square}
use Rattle.picture.specs.Table.{table}
use Rattle.transform.specs.Grids.{coefficients}

-- in a list of the same length, the n numbers from place i on are f 0 to f (n - 1), and all others what they were
pub record Placed (i n : ℕ) (f : ℕ → ℤ) (old new : List ℤ) : Type 0 where
  pub len : length new ≡ length old
  pub own : (k : ℕ) → k < n → at new (i + k) ≡ f k
  pub below : (j : ℕ) → j < i → at new j ≡ at old j
  pub above : (j : ℕ) → i + n ≤ j → at new j ≡ at old j

-- lane l of four rows of sixteen numbers holds coefficients 1 to 15 of a block: 1 to 4, 4 to 7, 8 to 11 and 12 to 15
pub record InLane (l : ℕ) (block out : List ℤ) : Type 0 where
  pub first : (k : ℕ) → k < 4 → at out (4 * l + k) ≡ at block (k + 1)
  pub second : (k : ℕ) → k < 4 → at out (16 + 4 * l + k) ≡ at block (k + 4)
  pub third : (k : ℕ) → k < 4 → at out (32 + 4 * l + k) ≡ at block (k + 8)
  pub fourth : (k : ℕ) → k < 4 → at out (48 + 4 * l + k) ≡ at block (k + 12)

-- block t: its coefficient 0 is number t of one list, and its coefficients 1 to 15 are the t-th fifteen of another
unfoldable pub block_in : List ℤ → List ℤ → ℕ → List ℤ
block_in zeros rest t = table 16 (coefficients (at zeros t) (λ k. at rest (15 * t + k)))

-- the block whose first number stands at place i of a grid of w columns, its core undone
unfoldable pub undone_at : ℕ → ℕ → List ℤ → List ℤ
undone_at w i grid = undo core (get (square w i) grid)

-- block l, its core undone: coefficient 0 among the zeros, the others in its lane
pub record Undone (l : ℕ) (block zeros out : List ℤ) : Type 0 where
  pub zero : at zeros l ≡ at (undo core block) 0
  pub rest : InLane l (undo core block) out
