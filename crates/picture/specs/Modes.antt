-- What a mode's number chooses: the mode that filters the levels of `filters_one` and `filters_two`, up to 2; above, none (01, "Both levels").
use Rattle.std.specs.Prelude.{ℕ, ◌≡◌, Bool, true, false, leb, Result, Ok, Err}
use Rattle.picture.specs.declared.mode.Mode.{Mode}
use Rattle.picture.specs.declared.refusals.Refusal.{Refusal}
use Rattle.picture.specs.declared.refusals.Refusal.TheVariants.{ModeRange}

-- mode 0 filters no level, mode 1 only level two, mode 2 both
abbrev pub filters_one : ℕ → Bool
filters_one mode = leb 2 mode

abbrev pub filters_two : ℕ → Bool
filters_two mode = leb 1 mode

abbrev pub mode_of : ℕ → Mode
mode_of mode = record { first = filters_one mode; second = filters_two mode }

abbrev choose : Bool → ℕ → Result Mode Refusal
choose true mode = Ok (mode_of mode)
choose false mode = Err ModeRange

abbrev pub mode_answer : ℕ → Result Mode Refusal
mode_answer mode = choose (leb mode 2) mode

-- what a number is turned into
abbrev pub GivesMode : ℕ → Result Mode Refusal → Type 0
GivesMode mode answer = answer ≡ mode_answer mode
