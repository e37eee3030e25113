-- The grid of the planes, its cores, and then the filters or nothing.
use mathlib.Core.Path.{◌∙◌, ap}
use Rattle.lifting.specs.Program.{run}
use Rattle.inverse_levels.proofs.Stages.{level_parts}
use Rattle.inverse_one.proofs.level_one.Goals as goal

pub returns : goal.returns
returns c =
    rw (← c.get-counts.ensures.value) (level_parts _ _ _ _ (c.cores.ensures ∙ ap (run _) (rw (← c.get-counts.ensures.value) at c.first_grid.ensures)) c.windows_if.ensures c.edges_if.ensures)
