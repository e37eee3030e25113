-- One corner after another; the lower two lie in the last two rows, which end where the grid does.
use Prim.Native.Nat.{ℕ, ◌+◌, ◌-◌, ◌*◌, ◌≤◌, ◌<◌}
use mathlib.Core.Path.{◌≡◌, ◌∙◌, ap}
use mathlib.Core.List.{List}
use native.Mathlib.Omega.{arith}
use lib.IntN.{ℤ}
use Rattle.lifting.specs.Program.{run}
use Rattle.transform.specs.Level.{corner_filter_at, corner_filters}
use Rattle.grid.proofs.Rows.{last_two}
use Rattle.inverse_levels.proofs.Loops.{then_more}
use Rattle.inverse_levels.proofs.corners.Goals as goal

room : (p q n : ℕ) → 0 < q → 16 * (p * q) ≤ n → let w = 4 * p in (4 * q - 2) * w + w + w ≤ n
room p q n h long = omega (arith, last_two q (4 * p) h)

-- a use at place i, which is place j
there : (w i j : ℕ) (v : List ℤ) {u : List ℤ} → u ≡ run (corner_filter_at w i) v → i ≡ j → u ≡ run (corner_filter_at w j) v
there w i j v h e = h ∙ ap (λ (k : ℕ). run (corner_filter_at w k) v) e

pub returns : goal.returns
unfolding corner_filters
returns c =
    then_more _ _ _ (there _ _ _ _ c.corner_filter_at.ensures (omega arith)) (then_more _ _ _ (there _ _ _ _ c.corner_filter_at-2.ensures (omega arith))
    (then_more _ _ _ (there _ _ _ _ c.corner_filter_at-3.ensures (omega arith)) (there _ _ _ _ c.corner_filter_at-4.ensures (omega arith))))

pub overflow_mul-bottom-2 : goal.overflow_mul-bottom-2
overflow_mul-bottom-2 c = omega (arith, room c.args.squares.across c.args.squares.down _ c.args.squares.tall c.requires)

pub corner_filter_at-requires : goal.corner_filter_at-requires
corner_filter_at-requires c = omega (arith, room c.args.squares.across c.args.squares.down _ c.args.squares.tall c.requires)

pub corner_filter_at-requires-2 : goal.corner_filter_at-requires-2
corner_filter_at-requires-2 c = omega (arith, room c.args.squares.across c.args.squares.down _ c.args.squares.tall c.requires)

pub corner_filter_at-requires-3 : goal.corner_filter_at-requires-3
corner_filter_at-requires-3 c = omega (arith, room c.args.squares.across c.args.squares.down _ c.args.squares.tall c.requires)

pub overflow_add-bottom : goal.overflow_add-bottom
overflow_add-bottom c = omega (arith, room c.args.squares.across c.args.squares.down _ c.args.squares.tall c.requires)

pub corner_filter_at-requires-4 : goal.corner_filter_at-requires-4
corner_filter_at-requires-4 c = omega (arith, room c.args.squares.across c.args.squares.down _ c.args.squares.tall c.requires)
