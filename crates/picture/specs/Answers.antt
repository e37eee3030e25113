-- What C is given of a call that tells whether a sum wrapped (01, "Numbers and what is refused"; 02, e).
use Rattle.std.specs.Prelude.{◌≡◌, Bool, false, Result, Ok, Err}
use Rattle.picture.specs.declared.answer.Answer.{Answer}
use Rattle.picture.specs.declared.refusals.Refusal.{Refusal}
use Rattle.picture.specs.Refusals.{number_of}

-- a refused call says no
abbrev pub wrapped_in : Result Bool Refusal → Bool
wrapped_in (Ok wrapped) = wrapped
wrapped_in (Err refusal) = false

pub record GivesAnswer (told : Result Bool Refusal) (answer : Answer) : Type 0 where
  pub number : answer.number ≡ number_of told
  pub wrapped : answer.wrapped ≡ wrapped_in told
