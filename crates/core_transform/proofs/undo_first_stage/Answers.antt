-- The block's fours, the stage on them, and the block of them.
use mathlib.Core.Path.{◌∙◌, ap}
use Rattle.lifting.specs.Program.{undo}
use Rattle.figures.specs.Pieces.{quarter_stage}
use Rattle.core_transform.proofs.Stages.{quarter-undo}
use Rattle.core_transform.proofs.undo_first_stage.Goals as goal

pub returns : goal.returns
returns c3 = let c2 = c3.before in let c1 = c2.before in c3.quartered.ensures ∙ (quarter-undo _ _ c2.undo_quarter_stage_told.ensures.done).0 ∙ ap (undo quarter_stage) c1.quarters.ensures
