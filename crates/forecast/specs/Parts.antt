-- The uses of a level's operators, as the function of one level gives them, and what it asks. No promise to a caller cites this.
use Rattle.std.specs.Prelude.{ℕ, ◌≤◌, ◌<◌}
use Rattle.lifting.specs.Program.{Program, Core, SquareFilter, FourFilter}
use Rattle.lifting.specs.OperatorUses.{uses}
use Rattle.forecast.specs.declared.LevelUses.{LevelUses}

abbrev pub uses_in : Program → LevelUses
uses_in p = record { cores = uses Core p; square_filters = uses SquareFilter p; four_filters = uses FourFilter p }

-- squares across and down, at most as many as level two of the largest picture has
pub record Squares (p q : ℕ) : Type 0 where
  pub wide : 0 < p
  pub most-wide : p ≤ 2100
  pub tall : 0 < q
  pub most-tall : q ≤ 1652

-- no more uses of an operator than these squares are
pub record Few (u : LevelUses) : Type 0 where
  pub cores : u.cores ≤ 3469200
  pub square-filters : u.square_filters ≤ 3469200
  pub four-filters : u.four_filters ≤ 3469200
