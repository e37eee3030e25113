-- The stages in turn, on the fours of the block.
use mathlib.Core.Path.{◌∙◌, ap}
use Rattle.lifting.specs.Program.{run}
use Rattle.figures.specs.Pieces.{crossed_stage}
use Rattle.square_filter.proofs.Stages.{last, stages_run}
use Rattle.square_filter.proofs.square_filter.Goals as goal

pub returns : goal.returns
returns c3 =
    let c2 = c3.before in
    let c1 = c2.before in
    c3.last_stage.ensures ∙ ap (run last) (c2.crossed_stage.ensures ∙ ap (run crossed_stage) c1.first_stage.ensures.done) ∙ stages_run _
