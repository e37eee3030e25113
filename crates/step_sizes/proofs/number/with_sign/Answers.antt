-- By the sign: the magnitude as a number of 32 bits, or that number negated, is the reduced one.
use mathlib.Core.Path.{sym, ◌∙◌}
use mir.Syntax.{w32}
use mir.ValLaws.{to_z-of_z, of_z-to_z}
use Rattle.lifting.proofs.Bits.{back}
use Rattle.step_sizes.proofs.Signs.{kept_sign, turned_sign}
use Rattle.step_sizes.proofs.number.with_sign.Goals as goal
use Rattle.step_sizes.proofs.number.with_sign.Goals.{Start}

pub returns-then-x-lt0 : goal.returns-then-x-lt0
returns-then-x-lt0 c =
    let s = (goal.at.returns-then-x-lt0 c).Start in
    let v = c.cast_signed-value in
    let m = s.args.magnitude in
    let below = rw (to_z-of_z w32 s.args.x s.ranges.x) at c.if-x-lt0.true in
    back c.wrapping_neg.type_inv ∙ (rw (back v.type_inv, v.ensures, of_z-to_z w32 m s.ranges.magnitude) at c.wrapping_neg.ensures) ∙ sym (turned_sign s.args.x m s.ranges.magnitude.fits below)

pub returns-else-x-lt0 : goal.returns-else-x-lt0
returns-else-x-lt0 c =
    let s = (goal.at.returns-else-x-lt0 c).Start in
    let v = c.cast_signed-value in
    let not-below = rw (to_z-of_z w32 s.args.x s.ranges.x) at c.if-x-lt0.false in
    back v.type_inv ∙ v.ensures ∙ sym (kept_sign s.args.x s.args.magnitude s.ranges.magnitude.fits not-below)
