-- The checks that quantise and restore share, in their order (02, a).
use Rattle.std.specs.Prelude.{ℕ, ◌≡◌, Result, IfOk, ◌||◌, List, [], ◌∷◌, ◌++◌, ltb}
use Rattle.picture.specs.declared.refusals.Refusal.{Refusal}
use Rattle.picture.specs.Planes.{Planes}
use Rattle.picture.specs.Refusals.{step_index, number_of}
use Rattle.picture.specs.Numbers.{◌if◌, first_of, plane_checks}
use Rattle.bands.specs.declared.steps.Steps.{Steps}

-- a step index above 255
abbrev pub step_check : Steps → List ℕ
step_check steps = (step_index if (ltb 255 steps.dc || (ltb 255 steps.low || ltb 255 steps.high))) ∷ []

-- what step indices are turned into: the number of their check, and the same indices where it passes
pub record GivesIndices (steps : Steps) (answer : Result Steps Refusal) : Type 0 where
  pub number : number_of answer ≡ first_of (step_check steps)
  pub same : IfOk answer (λ indices. indices ≡ steps)

-- 14; then 4, 5, 6 for the planes read, and after them for those written
abbrev pub band_checks : ℕ → Steps → Planes → Planes → List ℕ
band_checks n steps read written = step_check steps ++ plane_checks n read ++ plane_checks n written
