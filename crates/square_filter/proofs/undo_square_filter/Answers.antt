-- The stages undone from the last to the first, on the fours of the block.
use mathlib.Core.Path.{◌∙◌, ap}
use Rattle.lifting.specs.Program.{undo}
use Rattle.figures.specs.Pieces.{crossed_stage}
use Rattle.square_filter.proofs.Stages.{first, stages_undo}
use Rattle.square_filter.proofs.undo_square_filter.Goals as goal

pub returns : goal.returns
returns c3 =
    let c2 = c3.before in
    let c1 = c2.before in
    c3.first_stage.ensures.undone ∙ ap (undo first) (c2.undo_crossed_stage.ensures ∙ ap (undo crossed_stage) c1.undo_last_stage.ensures) ∙ stages_undo _
