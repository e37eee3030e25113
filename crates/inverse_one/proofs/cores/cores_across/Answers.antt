-- After i turns the grid is what i uses make of it; the remainders are the numbers themselves.
use Prim.Native.Nat.{ℕ, ◌+◌, ◌*◌, ◌%◌, ◌≤◌, ◌<◌}
use mathlib.Core.Path.{◌≡◌, refl, ◌∙◌, ap₂}
use native.Mathlib.Omega.{arith}
use Rattle.lifting.specs.Program.{run}
use Rattle.transform.specs.Level.{cell, core_at}
use Rattle.grid.proofs.Rows.{row_inside}
use Rattle.inverse_levels.proofs.Loops.{each_none, each_more, few_squares}
use Rattle.inverse_one.proofs.cores.cores_across.Goals as goal

module _ (p j : ℕ) (narrow : p ≤ 2100) (low : j < 1652) where
  same : p % 4096 ≡ p
  same = omega arith

  columns : 4 * (p % 4096) ≡ 4 * p
  columns = omega (arith, same)

  start : 4 * (j % 2048) * (4 * (p % 4096)) ≡ 16 * (j * p)
  start =
      let e : j % 2048 ≡ j = omega arith in
      rw (same, e) (omega arith)

  product : 4 * (j % 2048) * (4 * (p % 4096)) ≤ 55507200
  product = omega (arith, start, few_squares j p (omega arith) narrow)

pub loop-i-init : goal.loop-i-init
loop-i-init c = (refl, each_none _ _)

pub loop-i-preserved : goal.loop-i-preserved
loop-i-preserved c =
    let p = c.args.squares.across in
    let j = c.args.j in
    let n = c.loop-i.i in
    let v = c.loop-i.invariant in
    let at : 4 * (j % 2048) * (4 * (p % 4096)) + 4 * n ≡ cell p (4 * j) (4 * n) = omega (arith, start p j (omega arith) (omega arith)) in
    (c.core_at.auto.grid ∙ v.0, each_more _ _ _ _ _ v.1 (c.core_at.ensures ∙ ap₂ (λ (w : ℕ) (k : ℕ). run (core_at w k) c.loop-i.grid) (columns p j (omega arith) (omega arith)) at))

pub returns : goal.returns
returns c = let e : c.loop-i.i ≡ c.args.squares.across = omega (arith, same c.args.squares.across c.args.j (omega arith) (omega arith)) in rw e at c.loop-i.invariant.1

pub core_at-requires : goal.core_at-requires
core_at-requires c =
    let p = c.args.squares.across in
    let j = c.args.j in
    omega (arith, same p j (omega arith) (omega arith), start p j (omega arith) (omega arith), row_inside j c.args.squares.down p c.requires.j_bound, c.requires.long, c.loop-i.invariant.0)

pub overflow_mul-first-2 : goal.overflow_mul-first-2
overflow_mul-first-2 c = omega (arith, product c.args.squares.across c.args.j (omega arith) (omega arith))

pub overflow_add-first : goal.overflow_add-first
overflow_add-first c = omega (arith, product c.args.squares.across c.args.j (omega arith) (omega arith))
