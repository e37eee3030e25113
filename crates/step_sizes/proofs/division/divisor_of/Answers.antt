-- Every step of the table passes the test that is computed of its multiplier and shift.
use mathlib.Core.Path.{◌≡◌}
use native.Mathlib.Omega.{arith}
use Rattle.step_sizes.proofs.Reciprocal.{Works, every_step_works, multiplier_of, divides}
use Rattle.step_sizes.proofs.division.divisor_of.Goals as goal
use Rattle.step_sizes.proofs.division.divisor_of.Goals.{After-step-step, After-div_ceil-multiplier}

fit : (c : After-step-step) → Works c.step-step.result
fit c = rw c.step-step.ensures (every_step_works c.before.args.index (omega arith))

multiplier : (c : After-div_ceil-multiplier) → c.div_ceil-multiplier.result ≡ multiplier_of c.before.before.step-step.result
multiplier c = rw c.before.get-size.ensures.value at c.div_ceil-multiplier.ensures

pub overflow_cast-multiplier : goal.overflow_cast-multiplier
overflow_cast-multiplier c = record { fits = omega (arith, multiplier c, (fit c.before.before).multiplier) }

pub invariant_of-result : goal.invariant_of-result
invariant_of-result c =
    let step = c.before.before.step-step.result in
    let w = fit c.before.before in
    record { divides = rw (multiplier c, c.before.get-size.ensures.value) (record { shift_fits = w.shift; quotient = λ n h. divides step n w h }) }
