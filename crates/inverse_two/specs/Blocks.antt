-- Blocks of level two, in place: which coefficients each block has, and the squares that hold them after their core transforms.
use Rattle.std.specs.Prelude.{ℕ, ◌+◌, ◌-◌, ◌*◌, ◌/◌, ◌%◌, ◌≤◌, ◌<◌, ◌≡◌, List, [], ◌∷◌, ◌++◌, length, ℤ}
use Rattle.lifting.specs.Program.{at, get, run}
use Rattle.figures.specs.Figures.{core}
use Rattle.transform.specs.Level.{strip, square}
use Rattle.picture.specs.Table.{table}
use Rattle.transform.specs.Grids.{coefficients, block_order}
use Rattle.lanes.specs.Lanes.{Outside}
use Rattle.inverse_levels.specs.Filled.{Filled}

-- the coefficients of each block of a picture W macroblocks wide: the number that level one left at its place, and its high-pass numbers
abbrev pub block_numbers : ℕ → List ℤ → List ℤ → ℕ → ℕ → ℤ
block_numbers W view high b = coefficients (at view b) (λ k. at high (15 * block_order W b + k))

-- coefficients after the core transform
abbrev pub cored : (ℕ → ℕ → ℤ) → ℕ → ℕ → ℤ
cored f b = at (run core (table 16 (f b)))

-- block b lies in the rows of blocks from y to below e
abbrev pub InRows : ℕ → ℕ → ℕ → ℕ → Type 0
InRows W y e b = (y ≤ b / (4 * W)) × (b / (4 * W) < e)

-- and in the columns of macroblocks from c to below d
abbrev pub InBlocks : ℕ → ℕ → ℕ → ℕ → ℕ → ℕ → Type 0
InBlocks W y e c d b = InRows W y e b × ((c ≤ b % (4 * W) / 4) × (b % (4 * W) / 4 < d))

-- in the samples v of a picture W macroblocks wide, those rows of blocks hold the core transforms of their coefficients, and the rest is the old
abbrev pub RowsCored : ℕ → List ℤ → List ℤ → ℕ → ℕ → List ℤ → Type 0
RowsCored W high old y e v = Filled (4 * W) (cored (block_numbers W old high)) old (InRows W y e) v

-- the same of the blocks in those rows and columns
abbrev pub BlocksCored : ℕ → List ℤ → List ℤ → ℕ → ℕ → ℕ → ℕ → List ℤ → Type 0
BlocksCored W high old y e c d v = Filled (4 * W) (cored (block_numbers W old high)) old (InBlocks W y e c d) v

-- a block in lanes, its numbers from place i on: coefficient 0 by itself, and coefficients 1 to 4, 4 to 7, 8 to 11 and 12 to 15 in four rows
abbrev pub block_from : ℤ → List ℤ → List ℤ → List ℤ → List ℤ → ℕ → List ℤ
block_from zero a b c d i = (zero ∷ at a i ∷ at a (i + 1) ∷ at a (i + 1 + 1) ∷ []) ++ get (strip 1 i) b ++ get (strip 1 i) c ++ get (strip 1 i) d

-- the block of lane l
abbrev pub block_in_lane : List ℤ → List ℤ → List ℤ → List ℤ → List ℤ → ℕ → List ℤ
block_in_lane zeros a b c d l = block_from (at zeros l) a b c d (12 - 4 * l)

-- four blocks b to b + 3 side by side, whose high-pass numbers stand from `from` on: their squares, the first at `first`, hold their core transforms
pub record FourBlocks (old high : List ℤ) (w first b from : ℕ) (v : List ℤ) : Type 0 where
  pub len : length v ≡ length old
  pub own : (l : ℕ) → l < 4 → get (square w (first + 4 * l)) v ≡ run core (table 16 (coefficients (at old (b + l)) (λ k. at high (from + 15 * l + k))))
  pub rest : (i : ℕ) → Outside w first i → at v i ≡ at old i
