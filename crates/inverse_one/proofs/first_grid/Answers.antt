-- Row after row: the macroblocks before the next row's first are there, and the places are those of row r.
use Prim.Native.Nat.{ℕ, ◌+◌, ◌*◌}
use mathlib.Core.Path.{◌≡◌, refl, ap}
use mathlib.Core.Logic.Dec
use mathlib.Core.Logic.{by_cases}
use native.Mathlib.Omega.{arith}
use native.Mathlib.Decide.{dec_lt, dec_le}
use Rattle.transform.specs.Grids.{first_grid}
use Rattle.inverse_levels.proofs.Filled.{filled_join, filled_grid}
use Rattle.inverse_one.specs.Rows.{Between}
use Rattle.inverse_one.proofs.first_grid.Goals as goal

pub loop-r-preserved : goal.loop-r-preserved
loop-r-preserved c =
    let v = c.loop-r.invariant in
    let m = c.loop-r.m in
    rw c.get-counts.ensures.value (
      omega (arith, rw c.get-counts.ensures.value at c.loop-r-test.true),
      omega (arith, v.1),
      omega (arith, v.2),
      omega (arith, v.3),
      filled_join c.get-counts.ensures.sized.wide (Between 0 (m + c.args.size.width.0)) (λ b. Dec.and (dec_le _ _) (dec_lt _ _)) (λ b z o. (omega arith, by_cases (dec_lt b m) (λ y. y) (λ y. absurd (o (omega (arith, y), z.1))))) (λ b z. (omega arith, omega (arith, z))) (λ b z. (omega arith, z.1)) (λ b k z o. refl)
          v.4 c.grid_row.ensures,
    )

pub returns : goal.returns
unfolding first_grid
returns c =
    let size = c.args.size in
    let e : c.loop-r.r ≡ size.height.0 = omega (arith, rw c.get-counts.ensures.value at c.loop-r-test.false) in
    filled_grid c.get-counts.ensures.sized.wide size.height.0 _ (λ b h. (omega arith, omega (arith, h, c.loop-r.invariant.2, ap (λ (r : ℕ). r * size.width.0) e))) c.requires.view_len c.loop-r.invariant.4
