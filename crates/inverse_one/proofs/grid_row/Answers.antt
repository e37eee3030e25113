-- The row is filled from its first macroblock to its last; a square's place is the row's, and four columns for each macroblock before it.
use Prim.Native.Nat.{ℕ, ◌+◌, ◌*◌, ◌/◌, ◌%◌, ◌<◌}
use mathlib.Core.Path.{◌≡◌, refl, ◌∙◌, ap₂}
use native.Mathlib.Omega.{arith}
use native.Mathlib.Decide.{ℕ_discrete}
use Rattle.std.proofs.Common.{rules}
use lib.Arith.{digits_div, digits_mod}
use Rattle.lifting.specs.Program.{at, put}
use Rattle.transform.specs.Level.{cell, square}
use Rattle.picture.specs.Table.{table}
use Rattle.transform.specs.Grids.{coefficients}
use Rattle.inverse_levels.proofs.Filled.{filled_one, filled_join}
use Rattle.grid.proofs.Rows.{row_inside}
use Rattle.inverse_one.specs.Rows.{Between}
use Rattle.inverse_one.proofs.grid_row.Goals as goal

-- square (r, c) of a grid W squares across
square-place : (W r c at m : ℕ) → c < W → at ≡ r * (16 * W) → m ≡ r * W → at + 4 * c ≡ cell W (4 * ((m + c) / W)) (4 * ((m + c) % W))
square-place W r c at m h a b =
    let e : m + c ≡ r * W + c = omega arith in
    rw (e, digits_div r h, digits_mod r h) (omega arith)

pub loop-c-preserved : goal.loop-c-preserved
loop-c-preserved c =
    let wide = c.get.ensures.sized.wide in
    let W = c.args.size.width.0 in
    let H = c.args.size.height.0 in
    let m = c.args.m in
    let n : ℕ = m + c.loop-c.c in
    let beside : c.loop-c.c < W = rw c.get.ensures.value at c.loop-c-test.true in
    let inside : n < W * H = omega (arith, beside, row_inside c.args.r H W c.requires.r_bound) in
    let low : c.args.from + 15 * c.loop-c.c ≡ 15 * n = omega (arith, c.requires.at_value.1, c.requires.at_value.2) in (
      omega (arith, beside),
      filled_join wide (Between m (m + (c.loop-c.c + 1))) (λ b. ℕ_discrete b n) (λ b z o. (z.0, omega (arith, z, o))) (λ b z. (z.0, omega (arith, z))) (λ b z. (omega (arith, z), omega (arith, z))) (λ b k z o. refl) c.loop-c.invariant.1
          (filled_one wide H n _ inside (omega (arith, c.loop-c.invariant.1.len, c.requires.view_len))
          (rw (c.coefficient_block-block.ensures, c.blocks-w.ensures, c.get.ensures.value, low) at c.put_square.ensures
          ∙ ap₂ (λ (i : ℕ) x. put (square (4 * W) i) (table 16 (coefficients x (λ k. at c.args.low.now (15 * n + k)))) c.loop-c.view) (square-place W c.args.r c.loop-c.c c.args.at m beside c.requires.at_value.0 c.requires.at_value.1) (search rules))),
    )
