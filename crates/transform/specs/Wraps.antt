-- Whether a sum wraps in the inverse, the forward transform or the quarter view of a picture, and the claims that none does where the numbers are not too large.
use Rattle.std.specs.Prelude.{ℕ, ◌≡◌, Bool, false, ◌||◌, List, ℤ}
use Rattle.lifting.specs.Wraps.{wraps, undo_wraps, Within}
use Rattle.picture.specs.declared.size.Size.{Size}
use Rattle.picture.specs.declared.mode.Mode.{Mode}
use Rattle.picture.specs.Modes.{mode_of}
use Rattle.picture.specs.Planes.{Planes, PlanesOf}
use Rattle.transform.specs.Grids.{first_grid, second_grid, view_of}
use Rattle.transform.specs.Transform.{level_one, level_two, quarter_by, inverse, second_undone}
use Rattle.picture.specs.Sizes.{Shape}

-- in level one on its grid, and in level two on its own
unfoldable pub quarter_wraps_by : Mode → Size → List ℤ → List ℤ → Bool
quarter_wraps_by mode size dc low = wraps (level_one mode size) (first_grid size.width.0 size.height.0 dc low)

unfoldable pub inverse_wraps_by : Mode → Size → Planes → Bool
inverse_wraps_by mode size s =
    quarter_wraps_by mode size s.dc s.low
    || wraps (level_two mode size) (second_grid size.width.0 size.height.0 (quarter_by mode size s.dc s.low) s.high)

unfoldable pub forward_wraps_by : Mode → Size → List ℤ → Bool
forward_wraps_by mode size samples =
    undo_wraps (level_two mode size) samples
    || undo_wraps (level_one mode size) (view_of size.width.0 size.height.0 (second_undone mode size samples))

-- the same by the number of the mode
abbrev pub quarter_wraps : ℕ → Size → List ℤ → List ℤ → Bool
quarter_wraps mode size dc low = quarter_wraps_by (mode_of mode) size dc low

abbrev pub inverse_wraps : ℕ → Size → Planes → Bool
inverse_wraps mode size s = inverse_wraps_by (mode_of mode) size s

abbrev pub forward_wraps : ℕ → Size → List ℤ → Bool
forward_wraps mode size samples = forward_wraps_by (mode_of mode) size samples

-- ---- the claims

-- no number of the planes is above B in magnitude
pub record PlanesWithin (B : ℕ) (s : Planes) : Type 0 where
  pub dc : Within B s.dc
  pub low : Within B s.low
  pub high : Within B s.high

-- numbers of magnitude up to 2^22 do not wrap, in any mode and either way
abbrev pub InverseDoesNotWrap : Type 0
InverseDoesNotWrap = (mode : ℕ) (size : Size) → Shape mode size → (s : Planes) → PlanesWithin 4194304 s → inverse_wraps mode size s ≡ false

abbrev pub ForwardDoesNotWrap : Type 0
ForwardDoesNotWrap = (mode : ℕ) (size : Size) → Shape mode size → (samples : List ℤ) → Within 4194304 samples → forward_wraps mode size samples ≡ false

-- the way there wraps if and only if the way back does
abbrev pub WrapsBothWays : Type 0
WrapsBothWays = (mode : ℕ) (size : Size) → Shape mode size → (s : Planes) → PlanesOf size s → inverse_wraps mode size s ≡ forward_wraps mode size (inverse mode size s)
