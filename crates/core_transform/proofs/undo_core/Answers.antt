-- The two stages undone, and then the reorder.
use mathlib.Core.Path.{◌∙◌, ap}
use Rattle.lifting.specs.Program.{undo, get, undo_by}
use Rattle.figures.specs.Figures.{inverse_reorder, core}
use Rattle.figures.specs.Pieces.{quarter_stage}
use Rattle.core_transform.proofs.Stages.{stages_undo}
use Rattle.core_transform.proofs.undo_core.Goals as goal

pub returns : goal.returns
unfolding undo_by core
returns c3 =
    let c2 = c3.before in
    let c1 = c2.before in
    c3.undo_reorder.ensures ∙ ap (get inverse_reorder) (c2.undo_first_stage.ensures ∙ ap (undo quarter_stage) c1.second_stage.ensures.undone ∙ stages_undo _)
