-- The filters and then the cores, or the cores alone.
use Rattle.forward_kernel.proofs.Level.{level_filtered, level_plain}
use Rattle.forward_one.proofs.undo_level_one.Goals as goal
use Rattle.forward_one.proofs.undo_level_one.Goals.{then-filtered, else-filtered}

pub returns : goal.returns
returns c =
    elim c.if-filtered.branch [
      | then-filtered w ↦ level_filtered c.args.filtered _ _ _ w.if-filtered.true (rw (← w.dc-is, ← w.low-is) at w.undo_filters.ensures) c.undo_cores.ensures
      | else-filtered w ↦ level_plain c.args.filtered _ _ _ w.if-filtered.false (rw (w.dc-is, w.low-is) at c.undo_cores.ensures)
    ]
