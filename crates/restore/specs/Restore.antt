-- The call restore: the coefficients of a picture's levels, and the call's number (02, a).
use Rattle.std.specs.Prelude.{ℕ, Bool, ◌||◌, List, [], ◌∷◌, ◌++◌}
use Rattle.picture.specs.declared.size.Size.{Size}
use Rattle.picture.specs.Sizes.{macroblocks}
use Rattle.picture.specs.Planes.{Planes}
use Rattle.picture.specs.Refusals.{product}
use Rattle.picture.specs.Numbers.{◌if◌, first_of, shape_checks}
use Rattle.step_sizes.specs.Levels.{restored}
use Rattle.bands.specs.declared.steps.Steps.{Steps}
use Rattle.bands.specs.Bands.{by_bands, any_out}
use Rattle.bands.specs.Numbers.{band_checks}

-- each band has its own index
unfoldable pub restored_planes : Steps → Planes → Planes
restored_planes steps levels = by_bands restored steps levels

abbrev pub any_out_of : Planes → Bool
any_out_of s = any_out s.dc || (any_out s.low || any_out s.high)

-- a product outside the signed 32-bit range
abbrev pub range_check : Steps → Planes → List ℕ
range_check steps levels = (product if any_out_of (restored_planes steps levels)) ∷ []

-- as for quantise, and 15 after the lengths
abbrev pub restore_checks : ℕ → Steps → Planes → Planes → List ℕ
restore_checks n steps read written = band_checks n steps read written ++ range_check steps read

unfoldable pub restore_number : ℕ → Size → Steps → Planes → Planes → ℕ
restore_number mode size steps read written = first_of (shape_checks mode size ++ restore_checks (macroblocks size) steps read written)
