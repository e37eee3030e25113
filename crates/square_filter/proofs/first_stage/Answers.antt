-- The block's fours, the stage on them, and the block of them.
use mathlib.Core.Path.{◌∙◌, ap}
use Rattle.lifting.specs.Program.{run, undo}
use Rattle.square_filter.proofs.Stages.{mirrored-run, mirrored-undo, first}
use Rattle.square_filter.proofs.first_stage.Goals as goal

pub returns : goal.returns
returns c3 = let c2 = c3.before in let c1 = c2.before in record {
  done = c3.mirrored.ensures ∙ (mirrored-run _ _ _ _ c2.hadamards_told.ensures.done).0 ∙ ap (run first) c1.split.ensures;
  undone = c3.mirrored.ensures ∙ (mirrored-undo _ _ _ _ c2.hadamards_told.ensures.undone).0 ∙ ap (undo first) c1.split.ensures;
}
