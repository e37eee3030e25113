-- The block's fours, the stage on them, and the block of them.
use mathlib.Core.Path.{◌∙◌, ap}
use Rattle.lifting.specs.Program.{run}
use Rattle.figures.specs.Pieces.{quarter_stage}
use Rattle.core_transform.proofs.Stages.{quarter-run}
use Rattle.core_transform.proofs.first_stage.Goals as goal

pub returns : goal.returns
returns c3 = let c2 = c3.before in let c1 = c2.before in c3.quartered.ensures ∙ (quarter-run _ _ c2.quarter_stage_told.ensures.done).0 ∙ ap (run quarter_stage) c1.quarters.ensures
