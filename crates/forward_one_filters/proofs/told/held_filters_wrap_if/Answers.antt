-- By cases: where the level is not filtered there is nothing to wrap.
use Rattle.lifting.specs.Wraps.{undo_wraps}
use Rattle.forward_one_filters.proofs.told.held_filters_wrap_if.Goals as goal

pub returns-else-filtered : goal.returns-else-filtered
unfolding undo_wraps
returns-else-filtered c = rw c.if-filtered.false
