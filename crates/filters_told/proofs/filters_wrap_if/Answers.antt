-- Where the level has no filters, none wraps.
use mathlib.Core.Path.{◌∙◌}
use Rattle.lifting.specs.Wraps.{undo_wraps}
use Rattle.filters_told.proofs.filters_wrap_if.Goals as goal

pub returns-else-filtered : goal.returns-else-filtered
unfolding undo_wraps
returns-else-filtered c = c.if-filtered.false ∙ rw c.if-filtered.false
