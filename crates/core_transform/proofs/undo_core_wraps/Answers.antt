-- What the two stages undone tell, the first on what the second left; the reorder has no sums.
use mathlib.Core.Path.{◌∙◌, ap}
use Rattle.lifting.specs.Program.{undo}
use Rattle.lifting.specs.Wraps.{undo_wraps}
use Rattle.figures.specs.Figures.{core}
use Rattle.figures.specs.Pieces.{quarter_stage, core_mirrored_stage}
use Rattle.core_transform.proofs.Stages.{quarter-undo, mirrored-undo, undo_stages_wrap}
use Rattle.core_transform.proofs.undo_core_wraps.Goals as goal

pub returns : goal.returns
unfolding undo_wraps core
returns c7 =
    let c5 = c7.before.before in
    let c4 = c5.before in
    let c3 = c4.before in
    let c2 = c3.before in
    let c1 = c2.before in
    let first = mirrored-undo _ _ c2.hadamards_told-first.ensures.undone in
    let last = quarter-undo _ _ c5.undo_quarter_stage_told-last.ensures.done in
    let left = c4.quarters.ensures ∙ c3.mirrored.ensures ∙ first.0 ∙ ap (undo core_mirrored_stage) c1.split.ensures in
    rw (c2.hadamards_told-first.ensures.untold ∙ first.1 ∙ ap (undo_wraps core_mirrored_stage) c1.split.ensures, c5.undo_quarter_stage_told-last.ensures.told ∙ last.1 ∙ ap (undo_wraps quarter_stage) left)
    (undo_stages_wrap _)
