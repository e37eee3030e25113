-- The call quantise: the levels of a picture's planes, and the call's number (02, a).
use Rattle.std.specs.Prelude.{ℕ, ◌++◌}
use Rattle.picture.specs.declared.size.Size.{Size}
use Rattle.picture.specs.Sizes.{macroblocks}
use Rattle.picture.specs.Planes.{Planes}
use Rattle.picture.specs.Numbers.{first_of, shape_checks}
use Rattle.step_sizes.specs.Levels.{quantised}
use Rattle.bands.specs.declared.steps.Steps.{Steps}
use Rattle.bands.specs.Bands.{by_bands}
use Rattle.bands.specs.Numbers.{band_checks}

-- each band has its own index
unfoldable pub quantised_planes : Steps → Planes → Planes
quantised_planes steps coefficients = by_bands quantised steps coefficients

-- 1, 2, 3, 14, then 4, 5, 6 for the planes read and after them for those written
unfoldable pub quantise_number : ℕ → Size → Steps → Planes → Planes → ℕ
quantise_number mode size steps read written = first_of (shape_checks mode size ++ band_checks (macroblocks size) steps read written)
