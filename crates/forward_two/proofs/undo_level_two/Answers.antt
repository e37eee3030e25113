-- The filters and then the cores, or the cores alone.
use mathlib.Core.Path.{refl}
use Rattle.forward_kernel.proofs.Level.{level_filtered, level_plain}
use Rattle.forward_two_edges.specs.Unfiltered.{unfiltered}
use Rattle.forward_two.proofs.undo_level_two.Goals as goal

pub returns-then-filtered-clause-high_after : goal.returns-then-filtered-clause-high_after
unfolding unfiltered
returns-then-filtered-clause-high_after c = level_filtered c.args.filtered _ _ c.args.samples.now c.if-filtered.true refl c.undo_filtered.ensures.high_after

pub returns-else-filtered-clause-high_after : goal.returns-else-filtered-clause-high_after
returns-else-filtered-clause-high_after c = level_plain c.args.filtered _ _ c.args.samples.now c.if-filtered.false c.undo_cores.ensures.high_after
