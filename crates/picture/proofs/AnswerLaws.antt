-- A refusal's number is not 0, and what that settles: a refused call says no, and leaves what was there.
use Prim.Native.Nat.{ℕ}
use mathlib.Core.Path.{◌≡◌, refl, sym}
use mathlib.Core.Bool.{Bool, false}
use mathlib.Core.List.{List, ◌++◌}
use native.Mathlib.Omega.{arith}
use Rattle.std.specs.Prelude.{Result, Ok, Err, IfOk}
use Rattle.picture.specs.declared.refusals.Refusal.{Refusal}
use Rattle.picture.specs.declared.refusals.Refusal.TheVariants.{ModeRange, WidthRange, HeightRange, DcLength, LowPassLength, HighPassLength, SamplesLength, ViewLength, FileTooShort, LastWord, Offsets, FileLength, TooManyMacroblocks, StepIndex, Product}
use Rattle.picture.specs.Refusals.{number_of_refusal, number_of}
use Rattle.picture.specs.Numbers.{first_of, settled}
use Rattle.picture.specs.Answers.{wrapped_in}
use Rattle.picture.proofs.NumberLaws.{refused-first}

pub refused-keeps : {A : Type 0} (refusal : Refusal) (x y : A) → settled (number_of_refusal refusal) x y ≡ y
refused-keeps ModeRange x y = refl
refused-keeps WidthRange x y = refl
refused-keeps HeightRange x y = refl
refused-keeps DcLength x y = refl
refused-keeps LowPassLength x y = refl
refused-keeps HighPassLength x y = refl
refused-keeps SamplesLength x y = refl
refused-keeps ViewLength x y = refl
refused-keeps FileTooShort x y = refl
refused-keeps LastWord x y = refl
refused-keeps Offsets x y = refl
refused-keeps FileLength x y = refl
refused-keeps TooManyMacroblocks x y = refl
refused-keeps StepIndex x y = refl
refused-keeps Product x y = refl

pub not-done : (refusal : Refusal) → number_of_refusal refusal ≡ 0 → ⊥
not-done refusal e = omega (arith, rw e at (refused-keeps {A = ℕ} refusal 0 1))

-- checks that refuse do so whatever follows them
pub refused-before : (refusal : Refusal) (xs ys : List ℕ) → number_of_refusal refusal ≡ first_of xs → number_of_refusal refusal ≡ first_of (xs ++ ys)
refused-before refusal xs ys e = refused-first xs ys e (not-done refusal)

pub wrapped-settled : (told : Result Bool Refusal) (wrapped : Bool) → IfOk told (λ w. w ≡ wrapped) → wrapped_in told ≡ settled (number_of told) wrapped false
wrapped-settled (Ok w) wrapped e = e
wrapped-settled (Err refusal) wrapped e = sym (refused-keeps refusal wrapped false)
