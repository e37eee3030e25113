-- One more than the power of ten that n reaches; 0 reaches none.
use Rattle.std.proofs.Common.{arith, sym}
use Rattle.decimal.specs.Text.{digits, digits_in}
use Rattle.decimal.proofs.Digits.{digits-count}
use Rattle.decimal.proofs.digits_len.Goals as goal

pub returns-in-Some-clause-value : goal.returns-in-Some-clause-value
returns-in-Some-clause-value c = let e = c.in-Some.ensures in sym (digits-count c.in-Some.power c.args.n e.power_le e.next_power_gt (omega arith))

pub returns-in-None-clause-value : goal.returns-in-None-clause-value
unfolding digits digits_in
returns-in-None-clause-value c = rw c.in-None.ensures.none
