-- Exactly one set of planes gives a picture, and forward finds it (demand 3, first half).
use Rattle.std.specs.Prelude.{ℕ, ◌*◌, ◌≡◌, List, ℤ}
use Rattle.picture.specs.Planes.{Planes}
use Rattle.transform.specs.Transform.{inverse, forward, quarter}
use Rattle.corollaries.specs.Sizes.{of, EverySize, Numbers}

-- one DC number, 15 low-pass and 240 high-pass numbers for each of n macroblocks
pub record PlanesOf (n : ℕ) (s : Planes) : Type 0 where
  pub dc : Numbers n s.dc
  pub low : Numbers (15 * n) s.low
  pub high : Numbers (240 * n) s.high

-- forward gives a set of planes, and inverse of it the picture
abbrev pub ForwardGivesPlanes : Type 0
ForwardGivesPlanes = EverySize (λ mode W H. (samples : List ℤ) → Numbers (256 * (W * H)) samples → PlanesOf (W * H) (forward mode (of W H) samples))

abbrev pub InverseUndoesForward : Type 0
InverseUndoesForward = EverySize (λ mode W H. (samples : List ℤ) → Numbers (256 * (W * H)) samples → inverse mode (of W H) (forward mode (of W H) samples) ≡ samples)

-- no other set of planes does
abbrev pub NoOtherPlanes : Type 0
NoOtherPlanes =
    EverySize (λ mode W H. (samples : List ℤ) → Numbers (256 * (W * H)) samples → (s : Planes) → PlanesOf (W * H) s
    → inverse mode (of W H) s ≡ samples → s ≡ forward mode (of W H) samples)

-- two sets of planes that give one picture are the same
abbrev pub OnePictureOnePlanes : Type 0
OnePictureOnePlanes =
    EverySize (λ mode W H. (s t : Planes) → PlanesOf (W * H) s → PlanesOf (W * H) t → inverse mode (of W H) s ≡ inverse mode (of W H) t → s ≡ t)

-- the inverse goes through the quarter view: DC and low-pass numbers reach the samples by it alone
abbrev pub ThroughTheQuarterView : Type 0
ThroughTheQuarterView =
    (mode W H : ℕ) (s t : Planes) → quarter mode (of W H) s.dc s.low ≡ quarter mode (of W H) t.dc t.low → s.high ≡ t.high
    → inverse mode (of W H) s ≡ inverse mode (of W H) t
