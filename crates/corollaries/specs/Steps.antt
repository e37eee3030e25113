-- What quantising and restoring do to a number, at every index (02, a).
use Rattle.std.specs.Prelude.{ℕ, suc, ◌+◌, ◌*◌, ◌/◌, ◌≤◌, ◌≡◌, false, ℤ, pos, negsuc, neg_ℤ, nat_abs, ◌-ℤ◌, ◌*ℤ◌}
use Rattle.step_sizes.specs.Steps.{step_of}
use Rattle.step_sizes.specs.Levels.{quantised, restored, is_out_of_range}
use Rattle.corollaries.specs.Sizes.{InRange}

-- the step doubles 16 indices on
abbrev pub StepsDouble : Type 0
StepsDouble = (index : ℕ) → 16 ≤ index → step_of (index + 16) ≡ 2 * step_of index

-- the sign with magnitude (magnitude + step div 2) div step, and level × step; `negsuc n` is -(n + 1)
abbrev pub SignAndMagnitude : Type 0
SignAndMagnitude =
    (step n : ℕ)
    → (quantised step (pos n) ≡ pos ((n + step / 2) / step))
    × (quantised step (negsuc n) ≡ neg_ℤ (pos ((suc n + step / 2) / step)))
    × ((level : ℤ) → restored step level ≡ level *ℤ pos step)

-- zero gives zero; the level of a number of 32 bits is one; the error is at most step div 2; a restored level quantises to itself
abbrev pub EveryIndexRounds : Type 0
EveryIndexRounds =
    (index : ℕ) → index ≤ 255
    → (quantised (step_of index) (pos 0) ≡ pos 0)
    × ((x : ℤ) → InRange x → InRange (quantised (step_of index) x))
    × ((x : ℤ) → nat_abs (x -ℤ quantised (step_of index) x *ℤ pos (step_of index)) ≤ step_of index / 2)
    × ((level : ℤ) → quantised (step_of index) (level *ℤ pos (step_of index)) ≡ level)

-- index 0 and index 1, whose step is 1, change nothing
abbrev pub StepOneKeeps : Type 0
StepOneKeeps =
    (x : ℤ)
    → (quantised (step_of 0) x ≡ x) × (restored (step_of 0) x ≡ x) × (quantised (step_of 1) x ≡ x) × (restored (step_of 1) x ≡ x)

-- a product is told to be outside the range where it is
abbrev pub OutOfRangeIsTold : Type 0
OutOfRangeIsTold = (x : ℤ) → (is_out_of_range x ≡ false → InRange x) × (InRange x → is_out_of_range x ≡ false)
