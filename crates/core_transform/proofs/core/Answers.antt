-- The reorder, and then the two stages.
use mathlib.Core.Path.{◌∙◌, ap}
use Rattle.lifting.specs.Program.{run, run_by}
use Rattle.figures.specs.Figures.{core}
use Rattle.figures.specs.Pieces.{quarter_stage, core_mirrored_stage}
use Rattle.core_transform.proofs.Stages.{stages_run}
use Rattle.core_transform.proofs.core.Goals as goal

pub returns : goal.returns
unfolding run_by core
returns c3 =
    let c2 = c3.before in
    let c1 = c2.before in
    c3.second_stage.ensures.done ∙ ap (run core_mirrored_stage) (c2.first_stage.ensures ∙ ap (run quarter_stage) c1.reorder.ensures) ∙ stages_run _
