-- The checks in their order, as those of the inverse.
use Rattle.std.proofs.Common.{rules}
use Rattle.std.proofs.lemmas.Result.{err_from_is_err_and}
use Rattle.picture.specs.Numbers.{shape_checks, quarter_number}
use Rattle.picture.proofs.AnswerLaws.{refused-before}
use Rattle.transform.specs.Transform.{quarter_by}
use Rattle.transform.specs.Wraps.{quarter_wraps_by}
use Rattle.inverse.proofs.quarter_view.Goals as goal

pub returns-in_err-frame-clause-number : goal.returns-in_err-frame-clause-number
unfolding quarter_number
returns-in_err-frame-clause-number c =
    let p = err_from_is_err_and c.from_residual.result c.from_residual.ensures.1 in
    rw (p.1, p.2) (refused-before c.in_err-frame.field-0.0 (shape_checks c.args.mode c.args.size) _ c.in_err-frame.ensures.number)

pub returns-in_err-check_low-clause-number : goal.returns-in_err-check_low-clause-number
unfolding quarter_number
returns-in_err-check_low-clause-number c = search rules

pub returns-then-view-numbers-clause-number : goal.returns-then-view-numbers-clause-number
unfolding quarter_number
returns-then-view-numbers-clause-number c = search rules

pub returns-clause-number : goal.returns-clause-number
unfolding quarter_number
returns-clause-number c = search rules

pub returns-clause-view_after : goal.returns-clause-view_after
unfolding quarter_by
returns-clause-view_after c = search rules

pub returns-clause-wrapped : goal.returns-clause-wrapped
unfolding quarter_wraps_by
returns-clause-wrapped c = search rules
