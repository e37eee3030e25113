-- The walk ends at the first use that wraps. The row lies inside the grid.
use Prim.Native.Nat.{ℕ, ◌+◌, ◌-◌, ◌*◌, ◌≤◌}
use mathlib.Core.Path.{◌≡◌, refl, ap}
use native.Mathlib.Omega.{arith}
use native.Mathlib.Nat.{mul-le-mul_right}
use lib.ListN.{length}
use Rattle.std.proofs.Common.{rules}
use Rattle.std.proofs.lemmas.Iterator.{serves_from_Range}
use Rattle.lifting.specs.Wraps.{undo_wraps}
use Rattle.lifting.specs.AnyUse.{any_use}
use Rattle.transform.specs.Level.{cell, four_filter_at, row_filters}
use Rattle.transform.proofs.Walks.{any_below, any_of_uses}
use Rattle.filters_told.proofs.row_wraps.Goals as goal

place : (p r i : ℕ) → r * (4 * p) + 2 + 4 * i ≡ cell p r (4 * i + 2)
place p r i = omega arith

pub any-requires-clause-callable : goal.any-requires-clause-callable
any-requires-clause-callable c =
    let a = c.args in
    let room : a.r * (4 * a.squares.across) + 4 * a.squares.across ≤ length a.grid.now = omega (arith, mul-le-mul_right (4 * a.squares.across) c.requires.r_bound) in
    serves_from_Range (λ x q k. search rules) (λ x l h. (
      λ κs p g e r n u f. record { fits = omega (arith, h, a.squares.most_wide) },
      λ κs p g e r n u f. record { fits = omega (arith, room, h, n.0) },
      λ κs p g e r n u f k. omega (arith, room, h),
    ))

pub returns : goal.returns
unfolding row_filters
returns c =
    let a = c.args in
    any_of_uses undo_wraps (a.squares.across - 1) (λ i. four_filter_at 1 (a.r * (4 * a.squares.across) + 2 + 4 * i)) _ a.grid.now
    (any_below (a.squares.across - 1) (λ i. any_use undo_wraps (four_filter_at 1 (a.r * (4 * a.squares.across) + 2 + 4 * i)) a.grid.now) refl refl c.any.ensures.ran (λ x q k. search rules) (λ x b q l k. search rules))
    (λ i. ap (four_filter_at 1) (place a.squares.across a.r i))
