-- The three bands of a picture, each with the step of its own index (02, a).
use Rattle.std.specs.Prelude.{ℕ, ◌≡◌, Bool, false, ◌||◌, List, [], ◌∷◌, map, ℤ, length}
use Rattle.picture.specs.Planes.{Planes, planes}
use Rattle.step_sizes.specs.Steps.{step_of}
use Rattle.step_sizes.specs.Levels.{is_out_of_range}
use Rattle.bands.specs.declared.steps.Steps.{Steps}

-- each number of each band by the band's step
abbrev pub by_bands : (ℕ → ℤ → ℤ) → Steps → Planes → Planes
by_bands f steps s = planes (map (f (step_of steps.dc)) s.dc) (map (f (step_of steps.low)) s.low) (map (f (step_of steps.high)) s.high)

-- some number of a plane is outside the signed 32-bit range
abbrev pub any_out : List ℤ → Bool
any_out [] = false
any_out (x ∷ xs) = is_out_of_range x || any_out xs

-- ---- what the work behind the calls asks: planes of the same lengths

pub record SameLengths (s t : Planes) : Type 0 where
  pub dc : length s.dc ≡ length t.dc
  pub low : length s.low ≡ length t.low
  pub high : length s.high ≡ length t.high
