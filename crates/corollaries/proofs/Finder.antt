-- A test of all numbers holds at each, and where it holds at each it holds of all; the claim about the finder, cited with each field.
use Prim.Native.Nat.{ℕ, zero, suc, ◌*◌, ◌≤◌, ◌<◌}
use mathlib.Core.Path.{◌≡◌, refl, sym, ap₂, ◌∙◌, subst}
use mathlib.Core.Bool.{Bool, true, false, not, ◌&&◌, ◌||◌}
use mathlib.Core.List.{List, [], ◌∷◌}
use native.Mathlib.Omega.{arith}
use lib.Dec.{T}
use lib.IntN.{ℤ}
use lib.ListN.{length}
use borrow.Author.Tests.{leb-true, le-leb}
use Rattle.lifting.specs.Program.{at}
use Rattle.lifting.specs.Tests.{all}
use Rattle.lifting.proofs.Tests.{all-at}
use Rattle.picture.specs.Planes.{Planes}
use Rattle.picture.proofs.CheckLaws.{either_false}
use Rattle.step_sizes.specs.Levels.{is_out_of_range}
use Rattle.bands.specs.Bands.{any_out}
use Rattle.restore.specs.Restore.{any_out_of}
use Rattle.differences.specs.Near.{near}
use Rattle.tries.specs.Tries.{passes_by, tried_planes_by, tried_samples, tried_samples_by}
use Rattle.find_step.specs.FindStep.{Answer}
use Rattle.find_step.proofs.Claims.{find_step_claim}
use Rattle.corollaries.specs.Sizes.{of, InRange}
use Rattle.corollaries.specs.Finder.{TryIsTheFourCalls, ProductsFit, PassingMeans, ZeroPasses, AnswersKeepTheTolerance, TheAnswers}
use Rattle.corollaries.proofs.Sizes.{shape, row}
use Rattle.corollaries.proofs.Steps.{out_of_range_is_told}

pub try_is_the_four_calls : TryIsTheFourCalls
unfolding tried_planes_by tried_samples_by
try_is_the_four_calls mode W H samples index = (refl, refl)

-- ---- numbers in the range

each_fits : (v : List ℤ) → any_out v ≡ false → (i : ℕ) → i < length v → InRange (at v i)
each_fits [] e i l = absurd (omega arith)
each_fits (x ∷ v) e zero l = (out_of_range_is_told x).0 (either_false (is_out_of_range x) (any_out v) e).0
each_fits (x ∷ v) e (suc i) l = each_fits v (either_false (is_out_of_range x) (any_out v) e).1 i (omega arith)

none_out : (v : List ℤ) → ((i : ℕ) → i < length v → InRange (at v i)) → any_out v ≡ false
none_out [] h = refl
none_out (x ∷ v) h = ap₂ ◌||◌ ((out_of_range_is_told x).1 (h 0 (omega arith))) (none_out v (λ i l. h (suc i) (omega arith)))

pub products_fit : {s : Planes} → any_out_of s ≡ false → ProductsFit s
products_fit {s} e =
    let (d, r) = either_false _ _ e in
    let (l, h) = either_false _ _ r in
    record { dc = each_fits s.dc d; low = each_fits s.low l; high = each_fits s.high h }

pub fit_products : {s : Planes} → ProductsFit s → any_out_of s ≡ false
fit_products {s} p = ap₂ ◌||◌ (none_out s.dc p.dc) (ap₂ ◌||◌ (none_out s.low p.low) (none_out s.high p.high))

-- ---- samples within the tolerance

both : (a b : Bool) → not a && b ≡ true → (a ≡ false) × (b ≡ true)
both false true e = (refl, refl)
both false false e = (refl, e)
both true b e = absurd (let z : ◌≡◌ {A = ℕ} 0 1 = cc in omega arith)

is_true : (b : Bool) → T b → b ≡ true
is_true true t = refl
is_true false t = absurd t

each_holds : (n : ℕ) (f : ℕ → Bool) → all n f ≡ true → (i : ℕ) → i < n → f i ≡ true
each_holds n f e i l = is_true _ (all-at n f (subst T (sym e) tt) i l)

holds_of_each : (n : ℕ) (f : ℕ → Bool) → ((i : ℕ) → i < n → f i ≡ true) → all n f ≡ true
holds_of_each zero f h = refl
holds_of_each (suc n) f h = ap₂ ◌&&◌ (holds_of_each n f (λ i l. h i (omega arith))) (h n (omega arith))

pub passing_means : PassingMeans
unfolding passes_by
passing_means mode W H samples tolerance index =
    let tried = tried_samples mode (of W H) samples index in (
      λ e.
          let (inside, close) = both _ _ e in
          (products_fit inside, λ i l. leb-true _ _ (each_holds (256 * (W * H)) (near tolerance samples tried) close i l)),
      λ fit close.
          rw (fit_products fit) (holds_of_each (256 * (W * H)) (near tolerance samples tried) (λ i l. le-leb _ _ (close i l))),
    )

pub zero-passes : ZeroPasses
zero-passes mode W H m a b c d samples n tolerance =
    let k = find_step_claim mode (of W H) (shape m a b c d) samples (row n) tolerance in
    (k.zero, k.same)

pub answers_keep_the_tolerance : AnswersKeepTheTolerance
answers_keep_the_tolerance mode W H m a b c d samples n tolerance index answer =
    let k = find_step_claim mode (of W H) (shape m a b c d) samples (row n) tolerance in
    ((passing_means mode W H samples tolerance index).0 (k.answered index answer)).1

-- ---- the answers

not-both : {b : Bool} → b ≡ true → b ≡ false → ⊥
not-both e f = let z : true ≡ false = sym e ∙ f in let y : ◌≡◌ {A = ℕ} 0 1 = cc in omega arith

pub the_answers : TheAnswers
the_answers test = (
  answer,
  λ none k l h. none k (omega arith) h,
  λ k l h e none. not-both e (none k (omega arith) h),
  wrong,
  λ a. omega (arith, a.0),
  beyond,
)
  where
    answer : (k : ℕ) → 2 ≤ k → k ≤ 255 → test k ≡ true → Answer test k
    answer zero l h e = absurd (omega arith)
    answer (suc k) l h e = (l, h, e)

    wrong : (k : ℕ) → 1 ≤ k → test k ≡ false → Answer test k → ⊥
    wrong zero l e a = omega arith
    wrong (suc k) l e a = not-both a.2 e

    beyond : (k : ℕ) → 255 < k → Answer test k → ⊥
    beyond zero l a = omega arith
    beyond (suc k) l a = omega (arith, a.1)
