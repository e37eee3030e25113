-- What the three stages undone tell, each on what the stage after it left.
use mathlib.Core.Path.{◌∙◌, ap}
use Rattle.lifting.specs.Program.{undo}
use Rattle.lifting.specs.Wraps.{undo_wraps}
use Rattle.figures.specs.Pieces.{crossed_stage}
use Rattle.square_filter.proofs.Stages.{mirrored-undo, first, last, undo_stages_wrap}
use Rattle.square_filter.proofs.undo_square_filter_wraps.Goals as goal

pub returns : goal.returns
returns c7 =
    let c4 = c7.before.before.before in
    let c3 = c4.before in
    let c2 = c3.before in
    let c1 = c2.before in
    let three = mirrored-undo _ _ _ _ c2.undo_post_hadamards_told-first.ensures.done in
    let one = mirrored-undo _ _ _ _ c4.hadamards_told-third.ensures.undone in
    let left = three.0 ∙ ap (undo last) c1.split.ensures in
    rw (c2.undo_post_hadamards_told-first.ensures.told ∙ three.1 ∙ ap (undo_wraps last) c1.split.ensures, c3.undo_crossed_told-second.ensures.told ∙ ap (undo_wraps crossed_stage) left, c4.hadamards_told-third.ensures.untold ∙ one.1 ∙ ap (undo_wraps first) (c3.undo_crossed_told-second.ensures.done ∙ ap (undo crossed_stage) left))
    (undo_stages_wrap _)
