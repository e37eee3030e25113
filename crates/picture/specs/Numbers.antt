-- The numbers that the operations give: checks in their order, of which the first that fails gives its number (01, "The numbers each operation gives").
use Rattle.std.specs.Prelude.{ℕ, zero, suc, ◌≡◌, ◌*◌, Result, IfOk, Bool, true, false, not, ◌||◌, List, [], ◌∷◌, ◌++◌, eqb, ltb, ℤ, length}
use Rattle.picture.specs.declared.size.Size.{Size}
use Rattle.picture.specs.Sizes.{macroblocks}
use Rattle.picture.specs.Refusals.{width_range, height_range, dc_length, low_pass_length, high_pass_length, samples_length, view_length}
use Rattle.picture.specs.declared.refusals.Refusal.{Refusal}
use Rattle.picture.specs.Refusals.{number_of}
use Rattle.picture.specs.Modes.{mode_answer}
use Rattle.picture.specs.Planes.{Planes}

-- a check: its number where the test fails it, and 0 where it passes
infix 20 ◌if◌
abbrev pub ◌if◌ : ℕ → Bool → ℕ
k if true = k
k if false = 0

-- 0 means done
abbrev pub first_of : List ℕ → ℕ
first_of [] = 0
first_of (zero ∷ checks) = first_of checks
first_of (suc k ∷ checks) = suc k

-- what a call leaves in a lent slice: its result where the number is 0, and what was there where it refuses
abbrev pub settled : {A : Type 0} → ℕ → A → A → A
settled zero result was = result
settled (suc k) result was = was

abbrev pub outside : ℕ → ℕ → Bool
outside most x = ltb x 1 || ltb most x

-- mode and size
abbrev pub mode_check : ℕ → List ℕ
mode_check mode = number_of (mode_answer mode) ∷ []

abbrev pub width_check : Size → List ℕ
width_check size = (width_range if outside 525 size.width.0) ∷ []

abbrev pub height_check : Size → List ℕ
height_check size = (height_range if outside 413 size.height.0) ∷ []

abbrev pub size_checks : Size → List ℕ
size_checks size = width_check size ++ height_check size

-- what a size is turned into: the number of its checks, and the size where they pass
pub record GivesSize (size : Size) (answer : Result Size Refusal) : Type 0 where
  pub number : number_of answer ≡ first_of (size_checks size)
  pub same : IfOk answer (λ picture. picture ≡ size)

abbrev pub shape_checks : ℕ → Size → List ℕ
shape_checks mode size = mode_check mode ++ size_checks size

-- lengths of slices, for n macroblocks
abbrev pub unlike : ℕ → ℕ → Bool
unlike length wanted = not (eqb length wanted)

abbrev pub dc_check : ℕ → List ℤ → List ℕ
dc_check n dc = (dc_length if unlike (length dc) n) ∷ []

abbrev pub low_check : ℕ → List ℤ → List ℕ
low_check n low = (low_pass_length if unlike (length low) (15 * n)) ∷ []

abbrev pub high_check : ℕ → List ℤ → List ℕ
high_check n high = (high_pass_length if unlike (length high) (240 * n)) ∷ []

abbrev pub low_checks : ℕ → List ℤ → List ℤ → List ℕ
low_checks n dc low = dc_check n dc ++ low_check n low

abbrev pub plane_checks : ℕ → Planes → List ℕ
plane_checks n s = low_checks n s.dc s.low ++ high_check n s.high

abbrev pub sample_check : ℕ → List ℤ → List ℕ
sample_check n samples = (samples_length if unlike (length samples) (256 * n)) ∷ []

abbrev pub view_check : ℕ → List ℤ → List ℕ
view_check n view = (view_length if unlike (length view) (16 * n)) ∷ []

-- Inverse: 1 to 7
unfoldable pub inverse_number : ℕ → Size → Planes → List ℤ → ℕ
inverse_number mode size s samples =
    first_of (shape_checks mode size ++ plane_checks (macroblocks size) s ++ sample_check (macroblocks size) samples)

-- Forward: 1, 2, 3, 7, 4, 5, 6
unfoldable pub forward_number : ℕ → Size → List ℤ → Planes → ℕ
forward_number mode size samples s =
    first_of (shape_checks mode size ++ sample_check (macroblocks size) samples ++ plane_checks (macroblocks size) s)

-- Quarter view: 1 to 5, then 8
unfoldable pub quarter_number : ℕ → Size → List ℤ → List ℤ → List ℤ → ℕ
quarter_number mode size dc low view =
    first_of (shape_checks mode size ++ low_checks (macroblocks size) dc low ++ view_check (macroblocks size) view)
