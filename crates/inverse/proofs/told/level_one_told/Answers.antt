-- The looks find nothing large, and nothing wraps; or the cores are judged, and then the filters.
use mathlib.Core.Path.{sym, ◌∙◌}
use Rattle.lifting.proofs.Tests.{or_no}
use Rattle.large_numbers.proofs.Small.{row_as}
use Rattle.inverse.proofs.Judged.{core-wraps, first-calm, first-filter-wraps}
use Rattle.inverse.proofs.told.level_one_told.Goals as goal

pub returns-then-first_cores_wrap-clause-value : goal.returns-then-first_cores_wrap-clause-value
returns-then-first_cores_wrap-clause-value c = core-wraps c.args.filtered c.args.size.width.0 c.args.size.height.0 _ (sym c.if-first_cores_wrap.true ∙ c.first_cores_wrap.ensures)

pub returns-then-large_dc-large_low-clause-value : goal.returns-then-large_dc-large_low-clause-value
returns-then-large_dc-large_low-clause-value c =
    let sized = c.get-counts.ensures.sized in
    first-filter-wraps c.args.filtered sized.wide sized.tall (row_as c.any_large-large_dc.ensures.row c.requires.dc_len.0) (row_as c.any_large-large_low.ensures.row c.requires.dc_len.1)
    (sym c.if-first_cores_wrap.false ∙ c.first_cores_wrap.ensures) c.level_one.ensures (rw c.get-counts.ensures.value at c.filters_wrap_if.ensures)

pub returns-clause-value : goal.returns-clause-value
returns-clause-value c =
    let none = or_no c.any_large-large_dc.result c.any_large-large_low.result c.if-large_dc-large_low.false in
    let sized = c.get-counts.ensures.sized in
    first-calm c.args.filtered sized.wide sized.tall (c.any_large-large_dc.ensures.within none.0) (c.any_large-large_low.ensures.within none.1)
