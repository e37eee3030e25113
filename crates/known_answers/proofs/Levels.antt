-- The values are computed.
use mathlib.Core.Path.{refl}
use Rattle.step_sizes.specs.Steps.{step_of}
use Rattle.step_sizes.specs.Levels.{quantised}
use Rattle.quantise.specs.Quantise.{quantised_planes}
use Rattle.restore.specs.Restore.{restored_planes}
use Rattle.known_answers.specs.Levels.{FirstSteps, ThreeBands}

pub first_steps : FirstSteps
unfolding step_of
first_steps = refl

pub three_bands : ThreeBands
unfolding step_of quantised quantised_planes restored_planes
three_bands = (refl, refl)
