-- What the three stages tell, each on what the stage before it left.
use mathlib.Core.Path.{◌∙◌, ap}
use Rattle.lifting.specs.Program.{run}
use Rattle.lifting.specs.Wraps.{wraps}
use Rattle.figures.specs.Pieces.{crossed_stage}
use Rattle.square_filter.proofs.Stages.{mirrored-run, first, last, stages_wrap}
use Rattle.square_filter.proofs.square_filter_wraps.Goals as goal

pub returns : goal.returns
returns c7 =
    let c4 = c7.before.before.before in
    let c3 = c4.before in
    let c2 = c3.before in
    let c1 = c2.before in
    let one = mirrored-run _ _ _ _ c2.hadamards_told-first.ensures.done in
    let three = mirrored-run _ _ _ _ c4.post_hadamards_told-third.ensures.done in
    let left = one.0 ∙ ap (run first) c1.split.ensures in
    rw (c2.hadamards_told-first.ensures.told ∙ one.1 ∙ ap (wraps first) c1.split.ensures, c3.crossed_told-second.ensures.told ∙ ap (wraps crossed_stage) left, c4.post_hadamards_told-third.ensures.told ∙ three.1 ∙ ap (wraps last) (c3.crossed_told-second.ensures.done ∙ ap (run crossed_stage) left))
    (stages_wrap _)
