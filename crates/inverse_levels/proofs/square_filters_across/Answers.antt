-- After k turns the grid is what up to 4 k uses make of it; each turn adds up to four.
use Prim.Native.Nat.{ℕ, ◌+◌, ◌*◌, ◌-◌, min}
use mathlib.Core.Path.{◌≡◌, refl, ◌∙◌, ap}
use native.Mathlib.Omega.{arith}
use Rattle.transform.specs.Level.{cell, square_filter_at}
use Rattle.grid.proofs.Rows.{row_inside}
use Rattle.inverse_levels.proofs.Loops.{each_none}
use Rattle.inverse_levels.proofs.Side.{each_plus}
use Rattle.inverse_levels.proofs.square_filters_across.Goals as goal

-- the place of window m of a turn whose first is window i
place : (j p k i m : ℕ) → i ≡ 4 * k → (4 * j + 2) * (4 * p) + 2 + 16 * k + 4 * m ≡ cell p (4 * j + 2) (4 * (i + m) + 2)
place j p k i m e = omega arith

pub loop-k-preserved : goal.loop-k-preserved
loop-k-preserved c =
    let p = c.args.squares.across in
    let k = c.loop-k.k in
    let v = c.loop-k.invariant in
    let before : min (4 * k) (p - 1) ≡ 4 * k = omega arith in
    let after : min (4 * k) (p - 1) + min (p - 1 - 4 * k) 4 ≡ min (4 * (k + 1)) (p - 1) = omega arith in (
      c.four_windows.auto.grid ∙ v.0,
      rw (← after) (each_plus (min (4 * k) (p - 1)) (min (p - 1 - 4 * k) 4) _ _ c.args.grid.now c.loop-k.grid v.1 (rw c.min.ensures at c.four_windows.ensures) (λ m h. ap (square_filter_at (4 * p)) (place c.args.j p k (min (4 * k) (p - 1)) m before))),
    )

pub loop-k-init : goal.loop-k-init
loop-k-init c = let none : min (4 * 0) (c.args.squares.across - 1) ≡ 0 = omega arith in (refl, rw none (each_none _ _))

pub four_windows-requires : goal.four_windows-requires
four_windows-requires c =
    let below = row_inside (c.args.j + 1) c.args.squares.down c.args.squares.across c.requires.j_bound in
    (omega arith, omega arith, omega arith, omega (arith, below, c.loop-k.invariant.0, c.requires.long))
