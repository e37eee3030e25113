-- The filters, or nothing.
use Rattle.lifting.specs.Program.{run_by}
use Rattle.inverse_levels.proofs.windows_if.Goals as goal

pub returns-then-filtered : goal.returns-then-filtered
returns-then-filtered c = rw c.if-filtered.true c.window_rows.ensures

pub returns-else-filtered : goal.returns-else-filtered
unfolding run_by
returns-else-filtered c = rw c.if-filtered.false
