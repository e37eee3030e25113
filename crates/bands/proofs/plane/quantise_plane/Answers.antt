-- After i turns the first i levels stand, and the rest are as they were.
use mathlib.Core.Path.{◌∙◌}
use native.Mathlib.Omega.{arith}
use Rattle.lifting.specs.Program.{at}
use Rattle.lifting.proofs.Bits.{back}
use Rattle.transform.proofs.UpTo.{up_to_none, up_to_more, up_to_mapped}
use Rattle.step_sizes.specs.Steps.{step_of}
use Rattle.step_sizes.specs.Levels.{quantised}
use Rattle.bands.proofs.plane.quantise_plane.Goals as goal

pub loop-i-init : goal.loop-i-init
loop-i-init c = up_to_none _ _

pub loop-i-preserved : goal.loop-i-preserved
loop-i-preserved c =
    let x = back {x = at c.args.plane.now c.loop-i.i} (omega arith) in
    up_to_more c.loop-i.invariant (omega arith) (back c.quantise_number.type_inv ∙ (rw (c.divisor_of-by.ensures, x) at c.quantise_number.ensures))

pub returns : goal.returns
returns c = up_to_mapped (quantised (step_of c.args.index)) c.args.plane.now c.loop-i.invariant c.requires (omega arith)
