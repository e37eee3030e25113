-- After i turns the first i coefficients stand, and the rest are as they were.
use mathlib.Core.Path.{◌∙◌}
use native.Mathlib.Omega.{arith}
use Rattle.lifting.specs.Program.{at}
use Rattle.lifting.proofs.Bits.{back}
use Rattle.transform.proofs.UpTo.{up_to_none, up_to_more, up_to_mapped}
use Rattle.step_sizes.specs.Steps.{step_of}
use Rattle.step_sizes.specs.Levels.{restored}
use Rattle.bands.proofs.Range.{each_inside}
use Rattle.bands.proofs.plane.restore_plane.Goals as goal

pub loop-i-init : goal.loop-i-init
loop-i-init c = up_to_none _ _

pub restore_number-requires : goal.restore_number-requires
restore_number-requires c =
    let x = back {x = at c.args.levels.now c.loop-i.i} (omega arith) in
    let step = c.get-step.ensures.value ∙ c.step.ensures in
    record { step_le_largest_step = omega (arith, c.get-step.ensures.value, c.get-step.ensures.most); level_value = rw (step, x) (each_inside (restored (step_of c.args.index)) c.args.levels.now c.loop-i.i (omega arith) c.requires.levels_value) }

pub loop-i-preserved : goal.loop-i-preserved
loop-i-preserved c =
    let x = back {x = at c.args.levels.now c.loop-i.i} (omega arith) in
    up_to_more c.loop-i.invariant (omega arith) (back c.restore_number.type_inv ∙ (rw (c.get-step.ensures.value ∙ c.step.ensures, x) at c.restore_number.ensures))

pub returns : goal.returns
returns c = up_to_mapped (restored (step_of c.args.index)) c.args.levels.now c.loop-i.invariant c.requires.levels_len (omega arith)
