-- The first check that fails is the first fault: each test is held to the fact that it is for.
use Prim.Native.Nat.{ℕ, zero, suc, ◌*◌, ◌≤◌, ◌<◌}
use mathlib.Core.Path.{◌≡◌, refl, sym, ap, subst, ◌∙◌}
use mathlib.Core.Bool.{Bool, true, false, ◌||◌}
use mathlib.Core.List.{List, [], ◌∷◌, ◌++◌}
use mathlib.Core.Logic.{◌⊎◌, inl, inr}
use native.Mathlib.Omega.{arith}
use lib.Dec.{T, ltb}
use lib.IntN.{ℤ}
use lib.ListN.{length}
use borrow.Author.Tests.{lt-ltb, le-ltb, le-leb, lt-leb, eq-eqb}
use Rattle.picture.specs.declared.size.Size.{Size}
use Rattle.picture.specs.Modes.{mode_answer}
use Rattle.picture.specs.Refusals.{number_of}
use Rattle.picture.specs.Planes.{Planes}
use Rattle.picture.specs.Numbers.{◌if◌, first_of, settled, outside, unlike, shape_checks, low_checks, plane_checks, sample_check}
use Rattle.picture.proofs.NumberLaws.{settled-done, settled-refused}
use Rattle.picture.proofs.CheckLaws.{like}
use Rattle.bands.specs.declared.steps.Steps.{Steps}
use Rattle.clients.specs.Right.{Right, Indices, Room}
use Rattle.clients.specs.Faults.{Fault, none, shape_faults, length_fault, low_faults, plane_faults, sample_fault, index_fault}

first : (k : ℕ) (checks : List ℕ) → T (ltb 0 k) → first_of (k ∷ checks) ≡ k
first zero checks t = absurd t
first (suc k) checks t = refl

-- what is said of the first of these checks that fails
pub record Told (checks : List ℕ) (P : ℕ → Type 0) : Type 0 where
  pub told : P (first_of checks)

pub no_fault : Told [] none
no_fault = record { told = refl }

pub first_fault : {k : ℕ} {F : Type 0} {rest : ℕ → Type 0} {x : ℕ} {checks : List ℕ} → T (ltb 0 k) → (F → x ≡ k) → ((F → ⊥) → x ≡ 0)
    → Told checks rest → Told (x ∷ checks) (Fault k F rest)
first_fault {k} {F} {rest} {x} {checks} t found passed r =
    record {
      told =
          record {
            here = λ f. ap (λ (j : ℕ). first_of (j ∷ checks)) (found f) ∙ first k checks t;
            later = λ n. subst (λ (j : ℕ). rest (first_of (j ∷ checks))) (sym (passed n)) r.told;
          };
    }

-- ---- mode and size

unknown : (mode : ℕ) → 2 < mode → number_of (mode_answer mode) ≡ 1
unknown mode h = simp (lt-leb mode 2 h)

known : (mode : ℕ) → mode ≤ 2 → number_of (mode_answer mode) ≡ 0
known mode h = simp (le-leb mode 2 h)

pub or_true : (a : Bool) → a || true ≡ true
or_true true = refl
or_true false = refl

out : (k most x : ℕ) → (x < 1) ⊎ (most < x) → (k if outside most x) ≡ k
out k most x (inl h) = simp (lt-ltb x 1 h)
out k most x (inr h) = simp (lt-ltb most x h, or_true (ltb x 1))

inside : (k most x : ℕ) → ((x < 1) ⊎ (most < x) → ⊥) → (k if outside most x) ≡ 0
inside k most x n =
    let a : x < 1 → ⊥ = λ h. n (inl h) in
    let b : most < x → ⊥ = λ h. n (inr h) in
    simp (le-ltb x 1 (omega (arith, a)), le-ltb most x (omega (arith, b)))

pub shape_faults_lem : (mode : ℕ) (size : Size) {rest : ℕ → Type 0} {checks : List ℕ} → Told checks rest → Told (shape_checks mode size ++ checks) (shape_faults mode size rest)
shape_faults_lem mode size r =
    let W = size.width.0 in
    let H = size.height.0 in
    first_fault tt (unknown mode) (λ n. known mode (omega (arith, n))) (first_fault tt (out 2 525 W) (inside 2 525 W) (first_fault tt (out 3 413 H) (inside 3 413 H) r))

-- ---- lengths

-- a test that is false where this holds, and only there
pub unless_fault : (k : ℕ) (b : Bool) {F : Type 0} {rest : ℕ → Type 0} {checks : List ℕ} → T (ltb 0 k) → (b ≡ false → F) → (F → b ≡ false) → Told checks rest
    → Told ((k if b) ∷ checks) (Fault k (F → ⊥) rest)
unless_fault k b {F} t from to r = first_fault t (λ n. fails b refl n) (λ n. passes b refl n) r
  where
    fails : (c : Bool) → b ≡ c → (F → ⊥) → (k if c) ≡ k
    fails true e n = refl
    fails false e n = absurd (n (from e))

    passes : (c : Bool) → b ≡ c → ((F → ⊥) → ⊥) → (k if c) ≡ 0
    passes false e n = refl
    passes true e n = absurd (n (λ f. let q = to f in let z : ◌≡◌ {A = ℕ} 0 1 = cc in omega arith))

pub length_fault_lem : (k length wanted : ℕ) {rest : ℕ → Type 0} {checks : List ℕ} → T (ltb 0 k) → Told checks rest
    → Told ((k if unlike length wanted) ∷ checks) (length_fault k length wanted rest)
length_fault_lem k length wanted t r = unless_fault k (unlike length wanted) t (like length wanted) (λ e. simp (eq-eqb length wanted e)) r

pub plane_faults_lem : (n : ℕ) (s : Planes) {rest : ℕ → Type 0} {checks : List ℕ} → Told checks rest → Told (plane_checks n s ++ checks) (plane_faults n s rest)
plane_faults_lem n s r =
    length_fault_lem 4 (length s.dc) n tt (length_fault_lem 5 (length s.low) (15 * n) tt (length_fault_lem 6 (length s.high) (240 * n) tt r))

pub low-faults : (n : ℕ) (dc low : List ℤ) {rest : ℕ → Type 0} {checks : List ℕ} → Told checks rest → Told (low_checks n dc low ++ checks) (low_faults n dc low rest)
low-faults n dc low r = length_fault_lem 4 (length dc) n tt (length_fault_lem 5 (length low) (15 * n) tt r)

pub sample_fault_lem : (n : ℕ) (samples : List ℤ) {rest : ℕ → Type 0} {checks : List ℕ} → Told checks rest → Told (sample_check n samples ++ checks) (sample_fault n samples rest)
sample_fault_lem n samples r = length_fault_lem 7 (length samples) (256 * n) tt r

-- ---- arguments that are right have no fault

neither : {most x : ℕ} → 1 ≤ x → x ≤ most → (x < 1) ⊎ (most < x) → ⊥
neither a b (inl h) = omega arith
neither a b (inr h) = omega arith

pub shape_right : {mode : ℕ} {size : Size} (rest : ℕ → Type 0) {k : ℕ} → Right mode size → shape_faults mode size rest k → rest k
shape_right rest r f = ((f.later (λ h. omega (arith, r.known, h))).later (neither r.wide r.most-wide)).later (neither r.tall r.most-tall)

pub indices_right : {steps : Steps} (rest : ℕ → Type 0) {k : ℕ} → Indices steps → index_fault steps rest k → rest k
indices_right {steps} rest r f = f.later outside
  where
    outside : (255 < steps.dc) ⊎ ((255 < steps.low) ⊎ (255 < steps.high)) → ⊥
    outside (inl h) = omega (arith, r.dc, h)
    outside (inr (inl h)) = omega (arith, r.low, h)
    outside (inr (inr h)) = omega (arith, r.high, h)

pub planes-right : {n : ℕ} {s : Planes} (rest : ℕ → Type 0) {k : ℕ} → Room n s → plane_faults n s rest k → rest k
planes-right rest r f = ((f.later (λ n. n r.dc)).later (λ n. n r.low)).later (λ n. n r.high)

-- ---- what a number settled

pub by_number : (P : ℕ → Type 0) {r k : ℕ} → r ≡ k → P k → P r
by_number P e p = subst P (sym e) p

pub record Taken {A : Type 0} (k : ℕ) (now result was : A) : Type 0 where
  pub done : k ≡ 0 → now ≡ result
  pub refused : (k ≡ 0 → ⊥) → now ≡ was

pub taken : {A : Type 0} {k : ℕ} {now result was : A} → now ≡ settled k result was → Taken k now result was
taken {A} {k} {now} {result} {was} e = record { done = λ z. e ∙ settled-done k result was z; refused = λ n. e ∙ settled-refused k result was n }
