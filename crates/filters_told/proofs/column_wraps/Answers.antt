-- The walk ends at the first use that wraps. Each use lies inside the grid.
use Prim.Native.Nat.{ℕ, ◌+◌, ◌-◌, ◌*◌, ◌≤◌}
use mathlib.Core.Path.{◌≡◌, refl, ap}
use native.Mathlib.Omega.{arith}
use lib.ListN.{length}
use Rattle.std.proofs.Common.{rules}
use Rattle.std.proofs.lemmas.Iterator.{serves_from_Range}
use Rattle.lifting.specs.Wraps.{undo_wraps}
use Rattle.lifting.specs.AnyUse.{any_use}
use Rattle.transform.specs.Level.{cell, four_filter_at, column_filters}
use Rattle.transform.proofs.Walks.{any_below, any_of_uses}
use Rattle.grid.proofs.Rows.{row_inside}
use Rattle.filters_told.proofs.column_wraps.Goals as goal

place : (p c j : ℕ) → 2 * (4 * p) + c + j * (4 * (4 * p)) ≡ cell p (4 * j + 2) c
place p c j = omega arith

pub any-requires-clause-callable : goal.any-requires-clause-callable
any-requires-clause-callable c =
    let a = c.args in
    serves_from_Range (λ x q k. search rules)
    (λ x l h. let room : (x + 1) * (16 * a.squares.across) + 16 * a.squares.across ≤ length a.grid.now = omega (arith, row_inside (x + 1) a.squares.down (16 * a.squares.across) (omega (arith, h)), c.requires.long) in (
      λ κs p g e r n u f v. record { fits = omega (arith, a.squares.most_wide) },
      λ κs p g e r n u f v. record { fits = omega (arith, room, n.0) },
      λ κs p g e r n u f v. record { fits = omega (arith, room, n.0, c.requires.c_bound) },
      λ κs p g e r n u f v k. omega (arith, room, c.requires.c_bound),
    ))

pub returns : goal.returns
unfolding column_filters
returns c =
    let a = c.args in
    any_of_uses undo_wraps (a.squares.down - 1) (λ j. four_filter_at (4 * a.squares.across) (2 * (4 * a.squares.across) + a.c + j * (4 * (4 * a.squares.across)))) _ a.grid.now
    (any_below (a.squares.down - 1) (λ j. any_use undo_wraps (four_filter_at (4 * a.squares.across) (2 * (4 * a.squares.across) + a.c + j * (4 * (4 * a.squares.across)))) a.grid.now) refl refl c.any.ensures.ran (λ x q k. search rules) (λ x b q l k. search rules))
    (λ j. ap (four_filter_at (4 * a.squares.across)) (place a.squares.across a.c j))
