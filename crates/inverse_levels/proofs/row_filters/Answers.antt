-- After i turns the grid is what i uses make of it; the row lies inside the grid.
use Prim.Native.Nat.{ℕ, ◌+◌, ◌*◌, ◌-◌, ◌≤◌, ◌<◌}
use mathlib.Core.Path.{◌≡◌, refl, ◌∙◌, ap}
use native.Mathlib.Omega.{arith}
use native.Mathlib.Nat.{mul-le-mul_right}
use Rattle.lifting.specs.Program.{run}
use Rattle.transform.specs.Level.{cell, four_filter_at, row_filters}
use Rattle.inverse_levels.proofs.Loops.{each_none, each_more}
use Rattle.inverse_levels.proofs.row_filters.Goals as goal

room : (p q r n : ℕ) → r < 4 * q → 16 * (p * q) ≤ n → cell p r (4 * p) ≤ n
room p q r n h long = omega (arith, mul-le-mul_right (4 * p) h)

place : (p r i : ℕ) → r * (4 * p) + 2 + 4 * i ≡ cell p r (4 * i + 2)
place p r i = omega arith

pub loop-i-preserved : goal.loop-i-preserved
loop-i-preserved c =
    let v = c.loop-i.invariant in
    (c.four_filter_at.auto.grid ∙ v.0, each_more _ _ _ _ _ v.1 (c.four_filter_at.ensures ∙ ap (λ (k : ℕ). run (four_filter_at 1 k) c.loop-i.grid) (place c.args.squares.across c.args.r c.loop-i.i)))

pub returns : goal.returns
unfolding row_filters
returns c = let e : c.loop-i.i ≡ c.args.squares.across - 1 = omega arith in rw e at c.loop-i.invariant.1

pub overflow_mul-first-2 : goal.overflow_mul-first-2
overflow_mul-first-2 c = omega (arith, room c.args.squares.across _ _ _ c.requires.r_bound c.requires.long)

pub overflow_add-first : goal.overflow_add-first
overflow_add-first c = omega (arith, room c.args.squares.across _ _ _ c.requires.r_bound c.requires.long)

pub overflow_add-first-in-loop-i : goal.overflow_add-first-in-loop-i
overflow_add-first-in-loop-i c = omega (arith, room c.args.squares.across _ _ _ c.requires.r_bound c.requires.long)

pub four_filter_at-requires : goal.four_filter_at-requires
four_filter_at-requires c = omega (arith, room c.args.squares.across _ _ _ c.requires.r_bound c.requires.long, c.loop-i.invariant.0)

pub loop-i-init : goal.loop-i-init
loop-i-init c = (refl, each_none _ _)
