-- The square and the coefficient at a place, and the place of a coefficient in a square, undo each other:
-- a place is its row and column by digits to the base 4 * p, a square its row and column by digits to the base p, and a row or column of places by digits to the base 4.
use Prim.Native.Nat.{ℕ, ◌+◌, ◌*◌, ◌/◌, ◌%◌, ◌<◌}
use mathlib.Core.Path.{◌≡◌}
use native.Mathlib.Omega.{arith}
use native.Mathlib.Nat.{mod-lt, div-add-mod', div-lt_iff_lt-mul}
use lib.Arith.{digits_lt, digits_div, digits_mod}
use Rattle.transform.specs.Grids.{square_of, coefficient_of, place, block_order, block_at}

-- ---- a grid of p squares across

module _ {p : ℕ} (wide : 0 < p) where
  column : (s k : ℕ) → 4 * (s % p) + k % 4 < 4 * p
  column s k = omega (arith, mod-lt s wide)

  row-of-place : (s k : ℕ) → place p s k / (4 * p) ≡ 4 * (s / p) + k / 4
  row-of-place s k = digits_div (4 * (s / p) + k / 4) (column s k)

  column-of-place : (s k : ℕ) → place p s k % (4 * p) ≡ 4 * (s % p) + k % 4
  column-of-place s k = digits_mod (4 * (s / p) + k / 4) (column s k)

  pub square-of-place : (s k : ℕ) → k < 16 → square_of p (place p s k) ≡ s
  square-of-place s k h = rw (row-of-place s k, column-of-place s k, a, b) (div-add-mod' s p)
    where
      a : (4 * (s / p) + k / 4) / 4 ≡ s / p
      a = omega arith

      b : (4 * (s % p) + k % 4) / 4 ≡ s % p
      b = omega arith

  pub coefficient_of_place : (s k : ℕ) → k < 16 → coefficient_of p (place p s k) ≡ k
  coefficient_of_place s k h = rw (row-of-place s k, column-of-place s k) (omega arith)

  square-column : (i : ℕ) → i % (4 * p) / 4 < p
  square-column i = omega (arith, mod-lt i {m = 4 * p} (omega arith))

  pub place-of-square : (i : ℕ) → place p (square_of p i) (coefficient_of p i) ≡ i
  place-of-square i =
      rw (digits_div (i / (4 * p) / 4) (square-column i), digits_mod (i / (4 * p) / 4) (square-column i), a, b) (div-add-mod' i (4 * p))
    where
      a : 4 * (i / (4 * p) / 4) + coefficient_of p i / 4 ≡ i / (4 * p)
      a = omega arith

      b : 4 * (i % (4 * p) / 4) + coefficient_of p i % 4 ≡ i % (4 * p)
      b = omega arith

  -- in a grid of q squares down
  pub place-low : (q s k : ℕ) → s < p * q → k < 16 → place p s k < 16 * (p * q)
  place-low q s k h l =
      let r : s / p < q = (div-lt_iff_lt-mul wide).1 (omega arith) in
      omega (arith, digits_lt {q = 4 * (s / p) + k / 4} {m = 4 * q} (omega arith) (column s k))

  pub square-low : (q i : ℕ) → i < 16 * (p * q) → square_of p i < p * q
  square-low q i h =
      let r : i / (4 * p) < 4 * q = (div-lt_iff_lt-mul {k = 4 * p} (omega arith)).1 (omega arith) in
      omega (arith, digits_lt {q = i / (4 * p) / 4} {m = q} (omega arith) (square-column i))

pub coefficient_low : (p i : ℕ) → coefficient_of p i < 16
coefficient_low p i = omega arith

-- ---- blocks in the order of the high-pass plane

module _ {W : ℕ} (wide : 0 < W) where
  pub order_of_block : (t : ℕ) → block_order W (block_at W t) ≡ t
  order_of_block t = rw (square-of-place wide (t / 16) (t % 16) (omega arith), coefficient_of_place wide (t / 16) (t % 16) (omega arith)) (omega arith)

  pub block_of_order : (b : ℕ) → block_at W (block_order W b) ≡ b
  block_of_order b = rw (a, c) (place-of-square wide b)
    where
      a : block_order W b / 16 ≡ square_of W b
      a = omega (arith, coefficient_low W b)

      c : block_order W b % 16 ≡ coefficient_of W b
      c = omega (arith, coefficient_low W b)

  pub block-low : (H t : ℕ) → t < 16 * (W * H) → block_at W t < 16 * (W * H)
  block-low H t h = place-low wide H (t / 16) (t % 16) (omega arith) (omega arith)

  pub order_low : (H b : ℕ) → b < 16 * (W * H) → block_order W b < 16 * (W * H)
  order_low H b h = omega (arith, square-low wide H b h, coefficient_low W b)
