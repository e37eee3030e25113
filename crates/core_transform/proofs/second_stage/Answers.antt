-- The block's fours, the stage on them, and the block of them.
use mathlib.Core.Path.{◌∙◌, ap}
use Rattle.lifting.specs.Program.{run, undo}
use Rattle.figures.specs.Pieces.{core_mirrored_stage}
use Rattle.core_transform.proofs.Stages.{mirrored-run, mirrored-undo}
use Rattle.core_transform.proofs.second_stage.Goals as goal

pub returns : goal.returns
returns c3 = let c2 = c3.before in let c1 = c2.before in record {
  done = c3.mirrored.ensures ∙ (mirrored-run _ _ c2.hadamards_told.ensures.done).0 ∙ ap (run core_mirrored_stage) c1.split.ensures;
  undone = c3.mirrored.ensures ∙ (mirrored-undo _ _ c2.hadamards_told.ensures.undone).0 ∙ ap (undo core_mirrored_stage) c1.split.ensures;
}
