-- Which indices pass, and which of them the finder may answer (02, c).
use Rattle.std.specs.Prelude.{ℕ, ◌*◌, ◌≤◌, ◌<◌, ◌≡◌, Bool, true, false, List, ℤ, nat_abs, ◌-ℤ◌, length}
use Rattle.lifting.specs.Program.{at}
use Rattle.picture.specs.Planes.{Planes}
use Rattle.transform.specs.Transform.{inverse, forward}
use Rattle.quantise.specs.Quantise.{quantised_planes}
use Rattle.restore.specs.Restore.{restored_planes}
use Rattle.tries.specs.Tries.{passes, tried_planes, tried_samples}
use Rattle.find_step.specs.FindStep.{Answer}
use Rattle.corollaries.specs.Sizes.{of, EverySize, InRange, Numbers}

-- forward, quantise, restore and inverse, one index for all bands
abbrev pub TryIsTheFourCalls : Type 0
TryIsTheFourCalls =
    (mode W H : ℕ) (samples : List ℤ) (index : ℕ)
    → (tried_planes mode (of W H) samples index ≡
    restored_planes (record { dc = index; low = index; high = index }) (quantised_planes (record { dc = index; low = index; high = index }) (forward mode (of W H) samples)))
    × (tried_samples mode (of W H) samples index ≡ inverse mode (of W H) (tried_planes mode (of W H) samples index))

-- every product of a try is in the range
pub record ProductsFit (s : Planes) : Type 0 where
  pub dc : (i : ℕ) → i < length s.dc → InRange (at s.dc i)
  pub low : (i : ℕ) → i < length s.low → InRange (at s.low i)
  pub high : (i : ℕ) → i < length s.high → InRange (at s.high i)

-- every sample, the last too, is left within the tolerance
abbrev pub SamplesNear : ℕ → ℕ → List ℤ → List ℤ → Type 0
SamplesNear n tolerance a b = (i : ℕ) → i < 256 * n → nat_abs (at a i -ℤ at b i) ≤ tolerance

-- an index passes if and only if its products fit and its samples are near
abbrev pub PassingMeans : Type 0
PassingMeans =
    (mode W H : ℕ) (samples : List ℤ) (tolerance index : ℕ)
    → (passes mode (of W H) samples tolerance index ≡ true
    → ProductsFit (tried_planes mode (of W H) samples index) × SamplesNear (W * H) tolerance samples (tried_samples mode (of W H) samples index))
    × (ProductsFit (tried_planes mode (of W H) samples index) → SamplesNear (W * H) tolerance samples (tried_samples mode (of W H) samples index)
    → passes mode (of W H) samples tolerance index ≡ true)

-- index 0 passes, and gives the samples back
abbrev pub ZeroPasses : Type 0
ZeroPasses =
    EverySize (λ mode W H. (samples : List ℤ) → Numbers (256 * (W * H)) samples → (tolerance : ℕ)
    → (passes mode (of W H) samples tolerance 0 ≡ true) × (tried_samples mode (of W H) samples 0 ≡ samples))

-- what is answered is within the tolerance
abbrev pub AnswersKeepTheTolerance : Type 0
AnswersKeepTheTolerance =
    EverySize (λ mode W H. (samples : List ℤ) → Numbers (256 * (W * H)) samples → (tolerance index : ℕ)
    → Answer (passes mode (of W H) samples tolerance) index → SamplesNear (W * H) tolerance samples (tried_samples mode (of W H) samples index))

-- the answers: each index from 2 to 255 that passes, and 0 where none of those does; nothing else
abbrev pub TheAnswers : Type 0
TheAnswers =
    (test : ℕ → Bool)
    → ((k : ℕ) → 2 ≤ k → k ≤ 255 → test k ≡ true → Answer test k)
    × (((k : ℕ) → 2 ≤ k → k ≤ 255 → test k ≡ false) → Answer test 0)
    × ((k : ℕ) → 2 ≤ k → k ≤ 255 → test k ≡ true → Answer test 0 → ⊥)
    × ((k : ℕ) → 1 ≤ k → test k ≡ false → Answer test k → ⊥)
    × (Answer test 1 → ⊥)
    × ((k : ℕ) → 255 < k → Answer test k → ⊥)
