-- Which pictures do not wrap, that both directions tell the same, and that what tells no is exact (02, e).
use Rattle.std.specs.Prelude.{ℕ, ◌*◌, ◌≤◌, ◌≡◌, false, List, ℤ, nat_abs}
use Rattle.lifting.specs.Program.{at}
use Rattle.lifting.specs.Wraps.{exact_run, exact_undo}
use Rattle.picture.specs.Modes.{mode_of}
use Rattle.picture.specs.Planes.{Planes, planes}
use Rattle.transform.specs.Grids.{first_grid, second_grid, dc_of, low_of, view_of, high_of}
use Rattle.transform.specs.Transform.{level_one, level_two, inverse, forward, quarter}
use Rattle.transform.specs.Wraps.{inverse_wraps, quarter_wraps, forward_wraps}
use Rattle.corollaries.specs.Sizes.{of, EverySize}
use Rattle.corollaries.specs.Planes.{PlanesOf}

-- at most 2^22 in magnitude
abbrev pub Small : List ℤ → Type 0
Small v = (i : ℕ) → nat_abs (at v i) ≤ 4194304

abbrev pub SmallPlanesDoNotWrap : Type 0
SmallPlanesDoNotWrap =
    EverySize (λ mode W H. (s : Planes) → Small s.dc → Small s.low → Small s.high
    → (inverse_wraps mode (of W H) s ≡ false) × (quarter_wraps mode (of W H) s.dc s.low ≡ false))

abbrev pub SmallSamplesDoNotWrap : Type 0
SmallSamplesDoNotWrap = EverySize (λ mode W H. (samples : List ℤ) → Small samples → forward_wraps mode (of W H) samples ≡ false)

-- inverse and forward tell the same of one picture
abbrev pub BothTellTheSame : Type 0
BothTellTheSame = EverySize (λ mode W H. (s : Planes) → PlanesOf (W * H) s → inverse_wraps mode (of W H) s ≡ forward_wraps mode (of W H) (inverse mode (of W H) s))

-- ---- where no wrap is told, the result is that of the steps over whole numbers, with no reduction

abbrev pub exact_quarter : ℕ → ℕ → ℕ → List ℤ → List ℤ → List ℤ
exact_quarter mode W H dc low = exact_run (level_one (mode_of mode) (of W H)) (first_grid W H dc low)

abbrev pub exact_inverse : ℕ → ℕ → ℕ → Planes → List ℤ
exact_inverse mode W H s = exact_run (level_two (mode_of mode) (of W H)) (second_grid W H (exact_quarter mode W H s.dc s.low) s.high)

abbrev pub exact_forward : ℕ → ℕ → ℕ → List ℤ → Planes
exact_forward mode W H samples =
    let two = exact_undo (level_two (mode_of mode) (of W H)) samples in
    let one = exact_undo (level_one (mode_of mode) (of W H)) (view_of W H two) in
    planes (dc_of W H one) (low_of W H one) (high_of W H two)

abbrev pub ToldNoIsExact : Type 0
ToldNoIsExact =
    (mode W H : ℕ)
    → ((s : Planes) → inverse_wraps mode (of W H) s ≡ false → inverse mode (of W H) s ≡ exact_inverse mode W H s)
    × ((dc low : List ℤ) → quarter_wraps mode (of W H) dc low ≡ false → quarter mode (of W H) dc low ≡ exact_quarter mode W H dc low)
    × ((samples : List ℤ) → forward_wraps mode (of W H) samples ≡ false → forward mode (of W H) samples ≡ exact_forward mode W H samples)
