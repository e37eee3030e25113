-- By the sign: a byte more than the digits of the magnitude, or just these.
use Rattle.std.proofs.Common.{arith, w32}
use mir.ValLaws.{to_z-of_z}
use Rattle.decimal.proofs.Digits.{length-below, length_above}
use Rattle.decimal.proofs.decimal_len.Goals as goal

pub returns-then-x-lt0-clause-value : goal.returns-then-x-lt0-clause-value
returns-then-x-lt0-clause-value c =
    let e = to_z-of_z w32 c.args.x c.ranges.x in
    omega (arith, rw (c.unsigned_abs.ensures.value, e) at c.digits_len-k.ensures.value, length-below c.args.x (rw e at c.if-x-lt0.true))

pub returns-else-x-lt0-clause-value : goal.returns-else-x-lt0-clause-value
returns-else-x-lt0-clause-value c =
    let e = to_z-of_z w32 c.args.x c.ranges.x in
    omega (arith, rw (c.unsigned_abs.ensures.value, e) at c.digits_len-k.ensures.value, length_above c.args.x (rw e at c.if-x-lt0.false))
