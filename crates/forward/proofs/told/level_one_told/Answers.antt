-- The looks find nothing large, and nothing wraps; or the filters were judged before they were undone, and the cores are after it.
use mathlib.Core.Path.{refl, sym, ◌∙◌}
use Rattle.lifting.proofs.Tests.{or_no}
use Rattle.transform.proofs.Grid.{row_first}
use Rattle.transform.proofs.NoWrap.{first-within}
use Rattle.large_numbers.proofs.Small.{row_as}
use Rattle.forward.proofs.Judged.{calm, judged}
use Rattle.forward.proofs.told.level_one_told.Goals as goal

pub returns-then-filters-clause-value : goal.returns-then-filters-clause-value
returns-then-filters-clause-value c =
    let sized = c.get.ensures.sized in
    let row = row_first _ _ (row_as c.any_large-large_dc.ensures.row c.requires.0) (row_as c.any_large-large_low.ensures.row c.requires.1) in
    judged c.args.filtered sized.wide sized.tall row c.undo_level_one.ensures (sym c.if-filters.true ∙ c.held_filters_wrap_if-filters.ensures) refl

pub returns-then-large_dc-large_low-clause-value : goal.returns-then-large_dc-large_low-clause-value
returns-then-large_dc-large_low-clause-value c =
    let sized = c.get.ensures.sized in
    let row = row_first _ _ (row_as c.any_large-large_dc.ensures.row c.requires.0) (row_as c.any_large-large_low.ensures.row c.requires.1) in
    judged c.args.filtered sized.wide sized.tall row c.undo_level_one.ensures (sym c.if-filters.false ∙ c.held_filters_wrap_if-filters.ensures) c.first_cores_wrap.ensures

pub returns-clause-value : goal.returns-clause-value
returns-clause-value c =
    let sized = c.get.ensures.sized in
    let none = or_no c.any_large-large_dc.result c.any_large-large_low.result c.if-large_dc-large_low.false in
    calm c.args.filtered sized.wide sized.tall (first-within _ _ (c.any_large-large_dc.ensures.within none.0) (c.any_large-large_low.ensures.within none.1))
