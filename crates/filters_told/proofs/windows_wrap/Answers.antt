-- The walk ends at the first row of windows in which one wraps.
use Prim.Native.Nat.{ℕ, ◌+◌, ◌-◌, ◌*◌}
use mathlib.Core.Path.{refl}
use native.Mathlib.Omega.{arith}
use Rattle.std.proofs.Common.{rules}
use Rattle.std.proofs.lemmas.Iterator.{serves_from_Range}
use Rattle.lifting.specs.Program.{Program, each}
use Rattle.lifting.specs.Wraps.{undo_wraps}
use Rattle.lifting.specs.AnyUse.{any_use}
use Rattle.transform.specs.Level.{cell, square_filter_at, square_filters}
use Rattle.transform.proofs.Walks.{any_below, any_of_uses}
use Rattle.grid.proofs.Rows.{row_inside}
use Rattle.filters_told.proofs.windows_wrap.Goals as goal

-- the windows between rows j and j + 1 of the squares
abbrev row_of : ℕ → ℕ → Program
row_of p j = each (p - 1) (λ i. square_filter_at (4 * p) (cell p (4 * j + 2) (4 * i + 2)))

pub any-requires-clause-callable : goal.any-requires-clause-callable
any-requires-clause-callable c =
    let a = c.args in
    serves_from_Range (λ x q k. search rules) (λ x l h. let room = row_inside (x + 1) a.squares.down a.squares.across (omega (arith, h)) in (λ κs p g e r n u f k. (c.requires, omega (arith, h))))

pub returns : goal.returns
unfolding square_filters
returns c =
    let a = c.args in
    any_of_uses undo_wraps (a.squares.down - 1) (row_of a.squares.across) (row_of a.squares.across) a.grid.now
    (any_below (a.squares.down - 1) (λ j. any_use undo_wraps (row_of a.squares.across j) a.grid.now) refl refl c.any.ensures.ran (λ x q k. search rules) (λ x b q l k. search rules)) (λ j. refl)
