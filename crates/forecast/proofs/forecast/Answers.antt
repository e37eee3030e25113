-- The checks of mode and size refuse, or pass and give the frame.
use Prim.Native.Nat.{ℕ}
use mathlib.Core.Path.{sym, ap, ◌∙◌}
use Rattle.picture.specs.Modes.{mode_of}
use Rattle.picture.specs.Refusals.{number_of_refusal}
use Rattle.picture.specs.Numbers.{first_of, settled, shape_checks}
use Rattle.picture.proofs.NumberLaws.{settled-done}
use Rattle.picture.proofs.AnswerLaws.{refused-keeps}
use Rattle.forecast.specs.Forecast.{work_by, no_work, forecast_number}
use Rattle.forecast.proofs.forecast.Goals as goal

pub returns-in-Ok : goal.returns-in-Ok
unfolding forecast_number
returns-in-Ok c =
    rw (c.work_of.ensures, c.in-Ok.ensures.mode, c.in-Ok.ensures.size) (sym (settled-done (first_of (shape_checks c.args.mode c.args.size)) _ _ (sym c.in-Ok.ensures.number)))

pub returns-in-Err : goal.returns-in-Err
unfolding forecast_number
returns-in-Err c =
    let work = work_by (mode_of c.args.mode) c.args.size in
    c.into.ensures
    ∙ sym (refused-keeps c.in-Err.refusal work (no_work (number_of_refusal c.in-Err.refusal)))
    ∙ ap (λ (k : ℕ). settled k work (no_work k)) c.in-Err.ensures.number
