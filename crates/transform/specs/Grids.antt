-- The grids of the two levels: which number of a plane stands where, and back (01, "Both levels").
use Rattle.std.specs.Prelude.{ℕ, zero, suc, ◌+◌, ◌*◌, ◌/◌, ◌%◌, List, ℤ}
use Rattle.lifting.specs.Program.{at}
use Rattle.picture.specs.Table.{table}

-- ---- in a grid of p squares across: the square, in raster order, and the coefficient that stand at place i, and back

abbrev pub square_of : ℕ → ℕ → ℕ
square_of p i = i / (4 * p) / 4 * p + i % (4 * p) / 4

abbrev pub coefficient_of : ℕ → ℕ → ℕ
coefficient_of p i = i / (4 * p) % 4 * 4 + i % (4 * p) % 4

abbrev pub place : ℕ → ℕ → ℕ → ℕ
place p s k = (4 * (s / p) + k / 4) * (4 * p) + (4 * (s % p) + k % 4)

-- the grid of p by q squares in which square s has the coefficients f s 0, .., f s 15
unfoldable pub grid : ℕ → ℕ → (ℕ → ℕ → ℤ) → List ℤ
grid p q f = table (16 * (p * q)) (λ i. f (square_of p i) (coefficient_of p i))

-- coefficient 0, and coefficients 1 to 15
abbrev pub coefficients : ℤ → (ℕ → ℤ) → ℕ → ℤ
coefficients x f zero = x
coefficients x f (suc k) = f k

-- ---- from planes

-- level one: each macroblock's square holds its DC number and then low-pass 1 to 15
unfoldable pub first_grid : ℕ → ℕ → List ℤ → List ℤ → List ℤ
first_grid W H dc low = grid W H (λ m. coefficients (at dc m) (λ k. at low (15 * m + k)))

-- a block's place in the high-pass plane: 16 blocks for each macroblock, which is itself a square of 4 by 4 blocks; and back
abbrev pub block_order : ℕ → ℕ → ℕ
block_order W b = 16 * square_of W b + coefficient_of W b

abbrev pub block_at : ℕ → ℕ → ℕ
block_at W t = place W (t / 16) (t % 16)

-- level two: each block's square holds the number left by level one at its place and then high-pass 1 to 15
unfoldable pub second_grid : ℕ → ℕ → List ℤ → List ℤ → List ℤ
second_grid W H view high = grid (4 * W) (4 * H) (λ b. coefficients (at view b) (λ k. at high (15 * block_order W b + k)))

-- ---- and back

unfoldable pub dc_of : ℕ → ℕ → List ℤ → List ℤ
dc_of W H g = table (W * H) (λ m. at g (place W m 0))

unfoldable pub low_of : ℕ → ℕ → List ℤ → List ℤ
low_of W H g = table (15 * (W * H)) (λ i. at g (place W (i / 15) (i % 15 + 1)))

unfoldable pub view_of : ℕ → ℕ → List ℤ → List ℤ
view_of W H g = table (16 * (W * H)) (λ b. at g (place (4 * W) b 0))

unfoldable pub high_of : ℕ → ℕ → List ℤ → List ℤ
high_of W H g = table (240 * (W * H)) (λ i. at g (place (4 * W) (block_at W (i / 15)) (i % 15 + 1)))
