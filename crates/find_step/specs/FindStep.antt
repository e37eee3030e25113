-- The call find_step: which index answers, by which of them pass, and the call's number (02, c).
use Rattle.std.specs.Prelude.{ℕ, zero, suc, Result, Ok, Err, ◌≤◌, ◌<◌, ◌≡◌, Bool, true, false, List, ◌++◌, ℤ}
use Rattle.picture.specs.declared.size.Size.{Size}
use Rattle.picture.specs.Sizes.{macroblocks}
use Rattle.picture.specs.Planes.{Planes}
use Rattle.picture.specs.declared.refusals.Refusal.{Refusal}
use Rattle.picture.specs.Refusals.{number_of}
use Rattle.find_step.specs.declared.found.Found.{Found}
use Rattle.picture.specs.Numbers.{first_of, shape_checks, plane_checks, sample_check}

-- ---- the answer

-- none of the indices above this one passes; 255 is the last
abbrev pub NoneAbove : (ℕ → Bool) → ℕ → Type 0
NoneAbove test index = (k : ℕ) → index < k → k ≤ 255 → test k ≡ false

-- any index from 2 to 255 that passes, and 0 only where none of those does
abbrev pub Answer : (ℕ → Bool) → ℕ → Type 0
Answer test zero = NoneAbove test 1
Answer test (suc k) = (2 ≤ suc k) × (suc k ≤ 255) × (test (suc k) ≡ true)

-- the index beside a number: an answer beside 0, and 0 beside a refusal
abbrev pub IndexBeside : ℕ → (ℕ → Bool) → ℕ → Type 0
IndexBeside zero test index = Answer test index
IndexBeside (suc k) test index = index ≡ 0

-- the index of a call: 0 where it is refused
abbrev pub index_in : Result ℕ Refusal → ℕ
index_in (Ok index) = index
index_in (Err refusal) = 0

-- what C is given of a call
pub record GivesFound (answer : Result ℕ Refusal) (found : Found) : Type 0 where
  pub number : found.number ≡ number_of answer
  pub index : found.index ≡ index_in answer

-- ---- the number

-- 7 for the samples and then for the second samples, then 4, 5, 6
abbrev pub length_checks : ℕ → List ℤ → List ℤ → Planes → List ℕ
length_checks n samples second s = sample_check n samples ++ sample_check n second ++ plane_checks n s

-- as forward: 1, 2, 3 and then those
unfoldable pub find_number : ℕ → Size → List ℤ → List ℤ → Planes → ℕ
find_number mode size samples second s = first_of (shape_checks mode size ++ length_checks (macroblocks size) samples second s)
