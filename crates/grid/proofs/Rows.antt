-- Rows of one length, one after another: where a row ends, and where the row above it begins.
use Prim.Native.Nat.{ℕ, ◌+◌, ◌-◌, ◌*◌, ◌≤◌, ◌<◌}
use mathlib.Core.Path.{◌≡◌, ap}
use native.Mathlib.Omega.{arith}
use native.Mathlib.Nat.{mul-le-mul_right}

-- of n rows of w numbers, row r ends before the end
pub row_inside : (r n w : ℕ) → r < n → r * w + w ≤ n * w
row_inside r n w h = omega (arith, mul-le-mul_right {m = r + 1} {n = n} w (omega arith))

-- row r begins where the row above it ends
pub row-above : (r w : ℕ) → 0 < r → r * w ≡ (r - 1) * w + w
row-above r w h = let e : r ≡ r - 1 + 1 = omega arith in omega (arith, ap (λ (k : ℕ). k * w) e)

-- the last two of 4 q rows end where the grid does
pub last_two : (q w : ℕ) → 0 < q → (4 * q - 2) * w + w + w ≡ 4 * q * w
last_two q w h = let e : 4 * q ≡ 4 * q - 2 + 2 = omega arith in omega (arith, ap (λ (k : ℕ). k * w) e)
