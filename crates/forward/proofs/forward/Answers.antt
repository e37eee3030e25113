-- The checks in their order: one that refuses gives its number, and the call's number is that of the first.
use Rattle.std.proofs.Common.{rules}
use Rattle.std.proofs.lemmas.Result.{err_from_is_err_and}
use Rattle.picture.specs.Numbers.{shape_checks, forward_number}
use Rattle.picture.proofs.AnswerLaws.{refused-before}
use Rattle.forward.proofs.forward.Goals as goal

pub returns-in_err-frame-clause-number : goal.returns-in_err-frame-clause-number
unfolding forward_number
returns-in_err-frame-clause-number c =
    let p = err_from_is_err_and c.from_residual.result c.from_residual.ensures.1 in
    rw (p.1, p.2) (refused-before c.in_err-frame.field-0.0 (shape_checks c.args.mode c.args.size) _ c.in_err-frame.ensures.number)

pub returns-then-samples-numbers-clause-number : goal.returns-then-samples-numbers-clause-number
unfolding forward_number
returns-then-samples-numbers-clause-number c = search rules

pub returns-in_err-check-clause-number : goal.returns-in_err-check-clause-number
unfolding forward_number
returns-in_err-check-clause-number c = search rules

pub returns-clause-number : goal.returns-clause-number
unfolding forward_number
returns-clause-number c = search rules
