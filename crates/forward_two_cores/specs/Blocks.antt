-- The blocks of level two where they lie, in the three planes of a picture and in its samples; and what it is to replace some of them.
use Rattle.std.specs.Prelude.{ℕ, ◌+◌, ◌*◌, ◌/◌, ◌%◌, ◌<◌, ◌≤◌, ◌≡◌, List, ℤ}
use Rattle.lifting.specs.Program.{at, get}
use Rattle.transform.specs.Level.{cell, square}
use Rattle.picture.specs.Table.{table}
use Rattle.transform.specs.Grids.{coefficients, block_at}
use Rattle.forward_kernel.specs.Placed.{block_in, undone_at}

-- coefficient 0 of block t, in the order of the high-pass plane: those of a macroblock's sixteen blocks are its DC and low-pass numbers, as a block of level one
abbrev pub zero_of : List ℤ → List ℤ → ℕ → ℤ
zero_of dc low t = at (block_in dc low (t / 16)) (t % 16)

unfoldable pub block_of : List ℤ → List ℤ → List ℤ → ℕ → List ℤ
block_of dc low high t = table 16 (coefficients (zero_of dc low t) (λ k. at high (15 * t + k)))

-- the same block's square in the samples of a picture W macroblocks wide
unfoldable pub square_in : ℕ → List ℤ → ℕ → List ℤ
square_in W samples t = get (square (4 * (4 * W)) (cell (4 * W) (4 * (block_at W t / (4 * W))) (4 * (block_at W t % (4 * W))))) samples

-- block k of a macroblock whose first number stands at place i of a grid of w columns, its core undone
abbrev pub undone_in : ℕ → ℕ → List ℤ → ℕ → List ℤ
undone_in w i grid k = undone_at w (i + 4 * (k / 4) * w + 4 * (k % 4)) grid

-- block t is one of macroblocks m to n - 1
abbrev pub Among : ℕ → ℕ → ℕ → Type 0
Among m n t = (m ≤ t / 16) × (t / 16 < n)

-- and in rows a to b - 1 of its macroblock's blocks
abbrev pub InRows : ℕ → ℕ → ℕ → ℕ → ℕ → Type 0
InRows a b m n t = Among m n t × (a ≤ t % 16 / 4) × (t % 16 / 4 < b)

-- what the blocks in P have is f's, and what all others have is what it was: a block itself, or its coefficient 0
pub record Replaced {A : Type 0} (P : ℕ → Type 0) (f old new : ℕ → A) : Type 0 where
  pub own : (t : ℕ) → P t → new t ≡ f t
  pub others : (t : ℕ) → (P t → ⊥) → new t ≡ old t
