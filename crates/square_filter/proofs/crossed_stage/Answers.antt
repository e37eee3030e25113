-- The block's fours, the stage on them, and the block of them.
use mathlib.Core.Path.{◌∙◌, ap}
use Rattle.lifting.specs.Program.{run}
use Rattle.figures.specs.Pieces.{crossed_stage}
use Rattle.square_filter.proofs.crossed_stage.Goals as goal

pub returns : goal.returns
returns c3 = let c2 = c3.before in let c1 = c2.before in c3.mirrored.ensures ∙ c2.crossed_told.ensures.done ∙ ap (run crossed_stage) c1.split.ensures
