-- The quotient is no larger than the magnitude, so that it fits with the coefficient's sign.
use mathlib.Core.Path.{◌∙◌}
use mir.Syntax.{w32}
use mir.ValLaws.{to_z-of_z}
use Rattle.lifting.proofs.Bits.{back}
use Rattle.lifting.proofs.WrapLaws.{wrap_id}
use Rattle.step_sizes.specs.Levels.{quantised}
use Rattle.step_sizes.proofs.Claims.{level-fits}
use Rattle.step_sizes.proofs.number.quantise_number.Goals as goal

pub returns : goal.returns
unfolding quantised
returns c =
    let s = c.before.before.before.before.before in
    let step = s.args.by.now.step in
    let x = to_z-of_z w32 s.args.x s.ranges.x in
    let u = rw x at c.unsigned_abs.ensures.value in
    let q = rw (c.get.ensures.value, u) at c.divide.ensures in
    back c.with_sign.type_inv ∙ (rw (x, q) at c.with_sign.ensures) ∙ wrap_id (level-fits step c.get.ensures.positive s.args.x s.ranges.x)
