-- The block's fours, the stage on them, and the block of them.
use mathlib.Core.Path.{◌∙◌, ap}
use Rattle.lifting.specs.Program.{run}
use Rattle.square_filter.proofs.Stages.{mirrored-run, last}
use Rattle.square_filter.proofs.last_stage.Goals as goal

pub returns : goal.returns
returns c3 = let c2 = c3.before in let c1 = c2.before in c3.mirrored.ensures ∙ (mirrored-run _ _ _ _ c2.post_hadamards_told.ensures.done).0 ∙ ap (run last) c1.split.ensures
