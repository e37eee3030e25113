-- Each of the four lines, joined.
use Rattle.lifting.specs.Wraps.{undo_wraps}
use Rattle.lifting.proofs.AnyUse.{four-told}
use Rattle.filters_told.proofs.edge_columns_wrap.Goals as goal

pub returns : goal.returns
returns c =
    four-told undo_wraps _ _ _ _ _ c.column_wraps-first.ensures c.column_wraps-second.ensures c.column_wraps-third.ensures c.column_wraps-fourth.ensures
