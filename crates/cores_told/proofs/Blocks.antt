-- Cores of a whole grid, told block by block: each law joins what the code reads of a block with the block that the grid has there.
use Prim.Native.Nat.{ℕ, zero, suc, ◌+◌, ◌*◌, ◌/◌, ◌%◌, ◌≤◌, ◌<◌}
use mathlib.Core.Path.{◌≡◌, sym, ◌∙◌, ap}
use mathlib.Core.Bool.{false}
use mathlib.Core.List.{List}
use native.Mathlib.Omega.{arith}
use lib.IntN.{ℤ, nat_abs}
use Rattle.lifting.specs.Program.{at}
use Rattle.lifting.specs.Tests.{any}
use Rattle.lifting.specs.Wraps.{wraps}
use Rattle.lifting.proofs.Tests.{any_same}
use Rattle.figures.proofs.Growth.{core_grows}
use Rattle.large_numbers.specs.Small.{AtMost}
use Rattle.transform.specs.Level.{cores}
use Rattle.transform.specs.Grids.{coefficients, block_order, first_grid, second_grid}
use Rattle.cores_told.specs.Blocks.{block_wraps, held_zero}
use Rattle.transform.proofs.Geometry.{order_low, block_of_order}
use Rattle.transform.proofs.Grid.{at_first}
use Rattle.picture.proofs.Table.{length-table}
use Rattle.transform.proofs.NoWrap.{within-table}
use Rattle.transform.proofs.Told.{cores-of-grid}

-- ---- a core of numbers of at most 2^27

pub block-calm : (x : ℤ) (rest : List ℤ) (from : ℕ) → nat_abs x ≤ 134217728 → AtMost 134217728 rest from (from + 15) → block_wraps x rest from ≡ false
block-calm x rest from h l = (core_grows 134217728 (omega arith)).calm (length-table 16 _) (within-table 16 _ number)
  where
    number : (k : ℕ) → k < 16 → nat_abs (coefficients x (λ i. at rest (from + i)) k) ≤ 134217728
    number zero m = h
    number (suc k) m = l (from + k) (omega arith) (omega arith)

-- ---- the cores of the two levels

module _ {W : ℕ} (wide : 0 < W) (H : ℕ) where
  pub first-told : (dc low : List ℤ) → wraps (cores W H) (first_grid W H dc low) ≡ any (W * H) (λ m. block_wraps (at dc m) low (15 * m))
  unfolding first_grid
  first-told dc low = cores-of-grid W H _ wide

  pub second-told : (view high : List ℤ) → wraps (cores (4 * W) (4 * H)) (second_grid W H view high) ≡ any (16 * (W * H)) (λ b. block_wraps (at view b) high (15 * block_order W b))
  unfolding second_grid
  second-told view high =
      let l : 0 < 4 * W = omega arith in
      let e : 4 * W * (4 * H) ≡ 16 * (W * H) = omega arith in
      cores-of-grid (4 * W) (4 * H) _ l ∙ ap (λ (n : ℕ). any n (λ b. block_wraps (at view b) high (15 * block_order W b))) e

  -- the same where the numbers of level one lie in DC and low-pass
  pub held_told : (dc low high : List ℤ)
      → wraps (cores (4 * W) (4 * H)) (second_grid W H (first_grid W H dc low) high) ≡ any (16 * (W * H)) (λ b. block_wraps (held_zero dc low (block_order W b)) high (15 * block_order W b))
  held_told dc low high =
      second-told (first_grid W H dc low) high
      ∙ any_same (16 * (W * H)) _ _ (λ b h. ap (λ x. block_wraps x high (15 * block_order W b)) (sym (held-zero b h)))
    where
      held-zero : (b : ℕ) → b < 16 * (W * H) → held_zero dc low (block_order W b) ≡ at (first_grid W H dc low) b
      held-zero b h =
          let t = block_order W b in
          let l = order_low wide H b h in
          sym (at_first wide H dc low (t / 16) (t % 16) (omega arith) (omega arith)) ∙ ap (at (first_grid W H dc low)) (block_of_order wide b)
