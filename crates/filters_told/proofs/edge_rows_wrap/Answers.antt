-- Each of the four lines, joined.
use Rattle.lifting.specs.Wraps.{undo_wraps}
use Rattle.lifting.proofs.AnyUse.{four-told}
use Rattle.filters_told.proofs.edge_rows_wrap.Goals as goal

pub returns : goal.returns
returns c =
    four-told undo_wraps _ _ _ _ _ c.row_wraps-first.ensures c.row_wraps-second.ensures c.row_wraps-third.ensures c.row_wraps-fourth.ensures
