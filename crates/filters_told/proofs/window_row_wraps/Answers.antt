-- The walk ends at the first window that wraps. The row of windows lies inside the grid.
use Prim.Native.Nat.{ℕ, ◌+◌, ◌-◌, ◌*◌, ◌≤◌}
use mathlib.Core.Path.{◌≡◌, refl, ap}
use native.Mathlib.Omega.{arith}
use lib.ListN.{length}
use Rattle.std.proofs.Common.{rules}
use Rattle.std.proofs.lemmas.Iterator.{serves_from_Range}
use Rattle.lifting.specs.Wraps.{undo_wraps}
use Rattle.lifting.specs.AnyUse.{any_use}
use Rattle.transform.specs.Level.{cell, square_filter_at}
use Rattle.transform.proofs.Walks.{any_below, any_of_uses}
use Rattle.grid.proofs.Rows.{row_inside}
use Rattle.filters_told.proofs.window_row_wraps.Goals as goal

place : (p j i : ℕ) → (4 * j + 2) * (4 * p) + 2 + 4 * i ≡ cell p (4 * j + 2) (4 * i + 2)
place p j i = omega arith

pub any-requires-clause-callable : goal.any-requires-clause-callable
any-requires-clause-callable c =
    let a = c.args in
    let p = a.squares.across in
    let room : 16 * (a.j * p + p + p) ≤ length a.grid.now = omega (arith, row_inside (a.j + 1) a.squares.down p c.requires.j_bound, c.requires.long) in
    serves_from_Range (λ x q k. search rules) (λ x l h. (
      λ κs p g e r n u f v. record { fits = omega (arith, h, a.squares.most_wide) },
      λ κs p g e r n u f v. record { fits = omega (arith, room, h, n.0) },
      λ κs p g e r n u f v k. omega (arith, room, h),
    ))

pub returns : goal.returns
returns c =
    let a = c.args in
    any_of_uses undo_wraps (a.squares.across - 1) (λ i. square_filter_at (4 * a.squares.across) ((4 * a.j + 2) * (4 * a.squares.across) + 2 + 4 * i)) _ a.grid.now
    (any_below (a.squares.across - 1) (λ i. any_use undo_wraps (square_filter_at (4 * a.squares.across) ((4 * a.j + 2) * (4 * a.squares.across) + 2 + 4 * i)) a.grid.now) refl refl c.any.ensures.ran (λ x q k. search rules) (λ x b q l k. search rules))
    (λ i. ap (square_filter_at (4 * a.squares.across)) (place a.squares.across a.j i))
