-- The reorder has no sums; then what the two stages tell, the second on what the first left.
use mathlib.Core.Path.{◌∙◌, ap}
use Rattle.lifting.specs.Program.{run}
use Rattle.lifting.specs.Wraps.{wraps}
use Rattle.figures.specs.Figures.{core}
use Rattle.figures.specs.Pieces.{quarter_stage, core_mirrored_stage}
use Rattle.core_transform.proofs.Stages.{quarter-run, mirrored-run, stages_wrap}
use Rattle.core_transform.proofs.core_wraps.Goals as goal

pub returns : goal.returns
unfolding wraps core
returns c7 =
    let c5 = c7.before.before in
    let c4 = c5.before in
    let c3 = c4.before in
    let c2 = c3.before in
    let c1 = c2.before in
    let c0 = c1.before in
    let given = c1.quarters.ensures ∙ c0.reorder.ensures in
    let first = quarter-run _ _ c2.quarter_stage_told-first.ensures.done in
    let last = mirrored-run _ _ c5.hadamards_told-last.ensures.done in
    let left = c4.split.ensures ∙ c3.quartered.ensures ∙ first.0 ∙ ap (run quarter_stage) given in
    rw (c2.quarter_stage_told-first.ensures.told ∙ first.1 ∙ ap (wraps quarter_stage) given, c5.hadamards_told-last.ensures.told ∙ last.1 ∙ ap (wraps core_mirrored_stage) left)
    (stages_wrap _)
