-- The walk ends at the first row of windows that wraps.
use Prim.Native.Nat.{◌-◌}
use mathlib.Core.Path.{refl, sym, ◌∙◌}
use native.Mathlib.Omega.{arith}
use Rattle.std.proofs.Common.{rules}
use Rattle.lifting.specs.Wraps.{undo_wraps}
use Rattle.lifting.specs.AnyUse.{any_use}
use Rattle.lifting.proofs.AnyUse.{any_use_each}
use Rattle.transform.specs.Level.{square_filters}
use Rattle.transform.proofs.Walks.{any_below}
use Rattle.forward_one_filters.specs.Windows.{filters_of_row}
use Rattle.forward_one_filters.proofs.told.windows_wrap.Goals as goal

pub returns : goal.returns
unfolding square_filters
returns c =
    let grid = c.args.level.now in
    any_below (grid.size.height.0 - 1) (λ j. any_use undo_wraps (filters_of_row grid.size j) grid.numbers) refl (omega (arith, c.height-rows.ensures.value)) c.any.ensures.ran
    (λ x q k. search rules) (λ x b q l k. search rules)
    ∙ sym (any_use_each undo_wraps (grid.size.height.0 - 1) _ grid.numbers)
