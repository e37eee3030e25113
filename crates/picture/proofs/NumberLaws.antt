-- Checks one list after another: the first that fails is that of the first list or, where all of that pass, that of the second. By cases on each check's number.
use Prim.Native.Nat.{ℕ, zero, suc}
use mathlib.Core.Path.{◌≡◌, refl, ◌∙◌}
use mathlib.Core.List.{List, [], ◌∷◌, ◌++◌}
use native.Mathlib.Omega.{arith}
use Rattle.picture.specs.Numbers.{first_of, settled}

pub refused-first : (xs ys : List ℕ) {k : ℕ} → k ≡ first_of xs → (k ≡ 0 → ⊥) → k ≡ first_of (xs ++ ys)
refused-first [] ys e h = absurd (h e)
refused-first (zero ∷ xs) ys e h = refused-first xs ys e h
refused-first (suc k ∷ xs) ys e h = e

pub passed_first : (xs ys : List ℕ) {k : ℕ} → k ≡ first_of xs → k ≡ 0 → first_of (xs ++ ys) ≡ first_of ys
passed_first [] ys e h = refl
passed_first (zero ∷ xs) ys e h = passed_first xs ys e h
passed_first (suc k ∷ xs) ys e h = absurd (omega (arith, e, h))

-- checks pass together if and only if those of each list do
pub both_pass : (xs ys : List ℕ) → first_of (xs ++ ys) ≡ 0 → (first_of xs ≡ 0) × (first_of ys ≡ 0)
both_pass [] ys e = (refl, e)
both_pass (zero ∷ xs) ys e = both_pass xs ys e
both_pass (suc k ∷ xs) ys e = absurd (omega (arith, e))

pub pass_both : (xs ys : List ℕ) → first_of xs ≡ 0 → first_of ys ≡ 0 → first_of (xs ++ ys) ≡ 0
pass_both xs ys e f = passed_first xs ys refl e ∙ f

pub last_passed : (xs ys : List ℕ) → first_of ys ≡ 0 → first_of (xs ++ ys) ≡ first_of xs
last_passed [] ys e = e
last_passed (zero ∷ xs) ys e = last_passed xs ys e
last_passed (suc k ∷ xs) ys e = refl

-- what is settled by a number that is 0, and by one that is not
pub settled-done : {A : Type 0} (k : ℕ) (x y : A) → k ≡ 0 → settled k x y ≡ x
settled-done zero x y e = refl
settled-done (suc k) x y e = absurd (omega (arith, e))

pub settled-refused : {A : Type 0} (k : ℕ) (x y : A) → (k ≡ 0 → ⊥) → settled k x y ≡ y
settled-refused zero x y h = absurd (h refl)
settled-refused (suc k) x y h = refl
