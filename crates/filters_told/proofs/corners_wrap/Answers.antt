-- Each of the four corners, joined; the lower two lie in the last two rows, which end where the grid does.
use Prim.Native.Nat.{ℕ, ◌+◌, ◌-◌, ◌*◌, ◌≤◌, ◌<◌}
use mathlib.Core.Path.{◌≡◌, ◌∙◌, ap}
use mathlib.Core.Bool.{Bool}
use mathlib.Core.List.{List}
use native.Mathlib.Omega.{arith}
use lib.IntN.{ℤ}
use Rattle.lifting.specs.Wraps.{undo_wraps}
use Rattle.lifting.specs.AnyUse.{any_use}
use Rattle.lifting.proofs.AnyUse.{four-told}
use Rattle.transform.specs.Level.{corner_filter_at, corner_filters}
use Rattle.grid.proofs.Rows.{last_two}
use Rattle.filters_told.proofs.corners_wrap.Goals as goal

room : (p q n : ℕ) → 0 < q → 16 * (p * q) ≤ n → let w = 4 * p in (4 * q - 2) * w + w + w ≤ n
room p q n h long = omega (arith, last_two q (4 * p) h)

-- a use at place i, which is place j
there : (w i j : ℕ) (v : List ℤ) {b : Bool} → b ≡ any_use undo_wraps (corner_filter_at w i) v → i ≡ j → b ≡ any_use undo_wraps (corner_filter_at w j) v
there w i j v h e = h ∙ ap (λ (k : ℕ). any_use undo_wraps (corner_filter_at w k) v) e

pub returns : goal.returns
unfolding corner_filters
returns c =
    four-told undo_wraps _ _ _ _ _ (there _ _ _ _ c.corner_wraps-top_left.ensures (omega arith)) (there _ _ _ _ c.corner_wraps-top_right.ensures (omega arith))
    (there _ _ _ _ c.corner_wraps-bottom_left.ensures (omega arith)) (there _ _ _ _ c.corner_wraps-bottom_right.ensures (omega arith))

pub overflow_mul-bottom-2 : goal.overflow_mul-bottom-2
overflow_mul-bottom-2 c = omega (arith, room c.args.squares.across c.args.squares.down _ c.args.squares.tall c.requires)

pub corner_wraps-top_left-requires : goal.corner_wraps-top_left-requires
corner_wraps-top_left-requires c = omega (arith, room c.args.squares.across c.args.squares.down _ c.args.squares.tall c.requires)

pub corner_wraps-top_right-requires : goal.corner_wraps-top_right-requires
corner_wraps-top_right-requires c = omega (arith, room c.args.squares.across c.args.squares.down _ c.args.squares.tall c.requires)

pub corner_wraps-bottom_left-requires : goal.corner_wraps-bottom_left-requires
corner_wraps-bottom_left-requires c = omega (arith, room c.args.squares.across c.args.squares.down _ c.args.squares.tall c.requires)

pub overflow_add-bottom : goal.overflow_add-bottom
overflow_add-bottom c = omega (arith, room c.args.squares.across c.args.squares.down _ c.args.squares.tall c.requires)

pub corner_wraps-bottom_right-requires : goal.corner_wraps-bottom_right-requires
corner_wraps-bottom_right-requires c = omega (arith, room c.args.squares.across c.args.squares.down _ c.args.squares.tall c.requires)
