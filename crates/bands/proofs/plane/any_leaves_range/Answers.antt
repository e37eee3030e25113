-- After i turns it is known whether one of the first i products is outside.
use mathlib.Core.Path.{refl, ◌∙◌}
use native.Mathlib.Omega.{arith}
use Rattle.lifting.specs.Program.{at}
use Rattle.lifting.proofs.Bits.{back}
use Rattle.step_sizes.specs.Steps.{step_of}
use Rattle.step_sizes.specs.Levels.{restored}
use Rattle.bands.proofs.Range.{one_looked, all_looked}
use Rattle.bands.proofs.plane.any_leaves_range.Goals as goal

pub loop-level-init : goal.loop-level-init
loop-level-init c = (omega arith, refl)

pub loop-level-preserved : goal.loop-level-preserved
loop-level-preserved c =
    let i = c.loop-level.level-index in
    let x = at c.args.levels.now i in
    let found = (rw (back {x = x} (omega arith)) at c.exclude-out.ensures) ∙ (rw (c.get.ensures.value, c.step.ensures) at (c.limits_of-limits.ensures.outside x)) in
    (omega arith, one_looked (restored (step_of c.args.index)) c.args.levels.now i (omega arith) c.loop-level.invariant.1 found)

pub returns : goal.returns
returns c = all_looked (restored (step_of c.args.index)) c.args.levels.now c.loop-level.level-index (omega arith) c.loop-level.invariant.1
