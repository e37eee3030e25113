-- A try of a step index, forward, quantise, restore and inverse with one index for all bands, and which indices pass (02, c).
use Rattle.std.specs.Prelude.{ℕ, ◌*◌, Bool, not, ◌&&◌, List, ℤ}
use Rattle.lifting.specs.Tests.{all}
use Rattle.picture.specs.declared.mode.Mode.{Mode}
use Rattle.picture.specs.declared.size.Size.{Size}
use Rattle.picture.specs.Sizes.{macroblocks}
use Rattle.picture.specs.Modes.{mode_of}
use Rattle.picture.specs.Planes.{Planes}
use Rattle.transform.specs.Transform.{forward_by, inverse_by}
use Rattle.bands.specs.declared.steps.Steps.{Steps}
use Rattle.quantise.specs.Quantise.{quantised_planes}
use Rattle.restore.specs.Restore.{restored_planes, any_out_of}
use Rattle.differences.specs.Near.{near}

-- one index for all bands
abbrev pub all_bands : ℕ → Steps
all_bands index = record { dc = index; low = index; high = index }

-- the restored coefficients, and the samples that they give
unfoldable pub tried_planes_by : Mode → Size → List ℤ → ℕ → Planes
tried_planes_by mode size samples index = restored_planes (all_bands index) (quantised_planes (all_bands index) (forward_by mode size samples))

unfoldable pub tried_samples_by : Mode → Size → List ℤ → ℕ → List ℤ
tried_samples_by mode size samples index = inverse_by mode size (tried_planes_by mode size samples index)

-- no product is outside the signed 32-bit range, and every sample is left within the tolerance
unfoldable pub passes_by : Mode → Size → List ℤ → ℕ → ℕ → Bool
passes_by mode size samples tolerance index =
    not (any_out_of (tried_planes_by mode size samples index)) && all (256 * macroblocks size) (near tolerance samples (tried_samples_by mode size samples index))

-- the same by the number of the mode
abbrev pub tried_planes : ℕ → Size → List ℤ → ℕ → Planes
tried_planes mode = tried_planes_by (mode_of mode)

abbrev pub tried_samples : ℕ → Size → List ℤ → ℕ → List ℤ
tried_samples mode = tried_samples_by (mode_of mode)

abbrev pub passes : ℕ → Size → List ℤ → ℕ → ℕ → Bool
passes mode = passes_by (mode_of mode)
