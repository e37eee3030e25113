-- After j turns the grid is what j pairs of uses make of it, and pair by pair is the same as column by column.
use Prim.Native.Nat.{ℕ, ◌+◌, ◌*◌, ◌-◌, ◌≤◌, ◌<◌}
use mathlib.Core.Path.{◌≡◌, refl, ◌∙◌, ap}
use native.Mathlib.Omega.{arith}
use Rattle.lifting.specs.Program.{run, ◌then◌}
use Rattle.transform.specs.Level.{cell, four_filter_at, column_filters}
use Rattle.inverse_levels.proofs.Columns.{columns_apart}
use Rattle.inverse_levels.proofs.Loops.{each_none, each_more}
use Rattle.grid.proofs.Rows.{row_inside}
use Rattle.inverse_levels.proofs.column_pair.Invariants.{pair}
use Rattle.inverse_levels.proofs.column_pair.Goals as goal

room : (p q j n : ℕ) → j < q - 1 → 16 * (p * q) ≤ n → (j + 1) * (16 * p) + 16 * p ≤ n
room p q j n h long = omega (arith, row_inside (j + 1) q (16 * p) (omega arith))

place : (p c j : ℕ) → 2 * (4 * p) + c + j * (4 * (4 * p)) ≡ cell p (4 * j + 2) c
place p c j = omega arith

beside : (p c j : ℕ) → 2 * (4 * p) + c + j * (4 * (4 * p)) + 1 ≡ cell p (4 * j + 2) (c + 1)
beside p c j = omega arith

pub loop-j-preserved : goal.loop-j-preserved
loop-j-preserved c =
    let p = c.args.squares.across in
    let a = c.args in
    let j = c.loop-j.j in
    let v = c.loop-j.invariant in (
      c.four_filter_pair.auto.grid ∙ v.0,
      each_more _ (pair p a.c) _ _ _ v.1
          (c.four_filter_pair.ensures ∙ ap (λ (k : ℕ). run (four_filter_at (4 * p) k then four_filter_at (4 * p) (2 * (4 * p) + a.c + j * (4 * (4 * p)) + 1)) c.loop-j.grid) (place p a.c j)
          ∙ ap (λ (k : ℕ). run (four_filter_at (4 * p) (cell p (4 * j + 2) a.c) then four_filter_at (4 * p) k) c.loop-j.grid) (beside p a.c j)),
    )

pub returns : goal.returns
unfolding column_filters
returns c =
    let p = c.args.squares.across in
    let q = c.args.squares.down in
    let e : c.loop-j.j ≡ q - 1 = omega arith in
    rw e at c.loop-j.invariant.1 ∙ columns_apart p (q - 1) c.args.c c.requires.c_bound c.args.grid.now

pub overflow_mul-j : goal.overflow_mul-j
overflow_mul-j c = omega (arith, room c.args.squares.across c.args.squares.down c.loop-j.j _ (omega arith) c.requires.long)

pub overflow_add-first-in-loop-j : goal.overflow_add-first-in-loop-j
overflow_add-first-in-loop-j c = omega (arith, room c.args.squares.across c.args.squares.down c.loop-j.j _ (omega arith) c.requires.long)

pub four_filter_pair-requires : goal.four_filter_pair-requires
four_filter_pair-requires c = omega (arith, room c.args.squares.across c.args.squares.down c.loop-j.j _ (omega arith) c.requires.long, c.loop-j.invariant.0)

pub loop-j-init : goal.loop-j-init
loop-j-init c = (refl, each_none _ _)
