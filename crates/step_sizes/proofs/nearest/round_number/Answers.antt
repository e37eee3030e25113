-- The multiple up to the magnitude and half a step is the product's magnitude, and has its sign.
use mathlib.Core.Path.{◌∙◌, ap}
use mir.Syntax.{w32}
use mir.ValLaws.{to_z-of_z}
use Rattle.lifting.specs.Wrap.{wrap}
use Rattle.lifting.proofs.Bits.{back}
use Rattle.step_sizes.proofs.Signs.{signed_product}
use Rattle.step_sizes.proofs.nearest.round_number.Goals as goal

pub returns : goal.returns
returns c =
    let s = c.before.before.before.before.before in
    let x = to_z-of_z w32 s.args.x s.ranges.x in
    let u = rw x at c.unsigned_abs.ensures.value in
    let p = rw (c.get.ensures.value, u) at c.multiple.ensures in
    back c.with_sign.type_inv ∙ (rw (x, p) at c.with_sign.ensures) ∙ ap wrap (signed_product s.args.by.now.step s.args.x)
