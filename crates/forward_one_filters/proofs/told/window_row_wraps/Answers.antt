-- The walk ends at the first window that wraps.
use Prim.Native.Nat.{◌-◌}
use mathlib.Core.Path.{refl, sym, ◌∙◌}
use native.Mathlib.Omega.{arith}
use Rattle.std.proofs.Common.{rules}
use Rattle.lifting.specs.Wraps.{undo_wraps}
use Rattle.lifting.specs.AnyUse.{any_use}
use Rattle.lifting.proofs.AnyUse.{any_use_each}
use Rattle.transform.proofs.Walks.{any_below}
use Rattle.forward_one_filters.specs.Windows.{filter_on}
use Rattle.forward_one_filters.proofs.told.window_row_wraps.Goals as goal

pub returns : goal.returns
returns c =
    let grid = c.args.level.now in
    any_below (grid.size.width.0 - 1) (λ i. any_use undo_wraps (filter_on grid.size c.args.j i) grid.numbers) refl (omega (arith, c.width-windows.ensures.value)) c.any.ensures.ran
    (λ x q k. search rules) (λ x b q l k. search rules)
    ∙ sym (any_use_each undo_wraps (grid.size.width.0 - 1) _ grid.numbers)
