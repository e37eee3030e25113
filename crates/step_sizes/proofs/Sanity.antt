-- Values that compute: steps at the ends of the rule's three parts, and numbers at the ends of the range and around half a step.
use mathlib.Core.Path.{◌≡◌, refl}
use lib.IntN.{pos, negsuc}
use Rattle.step_sizes.specs.Steps.{step_of, largest_step, step_answer}
use Rattle.step_sizes.specs.Levels.{quantised}

steps : (step_of 0 ≡ 1) × (step_of 1 ≡ 1) × (step_of 15 ≡ 15) × (step_of 16 ≡ 16) × (step_of 31 ≡ 31) × (step_of 32 ≡ 32) × (step_of 33 ≡ 34) × (step_of 255 ≡ largest_step) × (step_answer 256 ≡ 0)
unfolding step_of
steps = (refl, refl, refl, refl, refl, refl, refl, refl, refl)

-- 4, 5, -4, -5 and -6 by 10
rounded : (quantised 10 (pos 4) ≡ pos 0) × (quantised 10 (pos 5) ≡ pos 1) × (quantised 10 (negsuc 3) ≡ pos 0) × (quantised 10 (negsuc 4) ≡ negsuc 0) × (quantised 10 (negsuc 5) ≡ negsuc 0)
unfolding quantised
rounded = (refl, refl, refl, refl, refl)

-- -2147483648 by 1 and by 2, and 2147483647 by 2, which does not come back
ends : (quantised 1 (negsuc 2147483647) ≡ negsuc 2147483647) × (quantised 2 (negsuc 2147483647) ≡ negsuc 1073741823) × (quantised 2 (pos 2147483647) ≡ pos 1073741824)
unfolding quantised
ends = (refl, refl, refl)
