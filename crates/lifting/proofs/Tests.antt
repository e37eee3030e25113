-- Tests at every number below n: where all are true, each of them is; and where those below some number are not, no more make them so. By induction on n.
-- The laws of `||`, by cases, and of `any`, by induction on n.
use Prim.Native.Nat.{ℕ, zero, suc, ◌+◌, ◌*◌, ◌≤◌, ◌<◌}
use mathlib.Core.Path.{◌≡◌, refl, subst, sym, ◌∙◌, ap, ap₂}
use mathlib.Core.Bool.{Bool, true, false, ◌&&◌, ◌||◌, or_assoc, or-false, or_comm}
use native.Mathlib.Omega.{arith}
use native.Mathlib.Decide.{dec_le}
use native.Mathlib.Nat.{add-zero, add-suc, mul-zero, mul-suc, mul_comm}
use lib.Dec.{T}
use mir.Facts.{and_yes}
use Rattle.lifting.specs.Tests.{all, any}

pub all-at : (n : ℕ) (f : ℕ → Bool) → T (all n f) → (k : ℕ) → k < n → T (f k)
all-at zero f t k h = absurd (omega arith)
all-at (suc n) f t k h = case (dec_le n k) (all-at n f (and_yes (all n f) _ t).0 k)
  where
    case : Dec (n ≤ k) → (k < n → T (f k)) → T (f k)
    case (yes g) below = let e : n ≡ k = omega arith in subst (λ (i : ℕ). T (f i)) e (and_yes (all n f) _ t).1
    case (no g) below = below (omega (arith, g))

pub all_fails : (n k : ℕ) (f : ℕ → Bool) → all k f ≡ false → k ≤ n → all n f ≡ false
all_fails zero k f e h = let z : k ≡ 0 = omega arith in subst (λ (i : ℕ). all i f ≡ false) z e
all_fails (suc n) k f e h = case (dec_le k n) (all_fails n k f e)
  where
    case : Dec (k ≤ n) → (k ≤ n → all n f ≡ false) → all n f && f n ≡ false
    case (yes g) below = rw (below g)
    case (no g) below = let z : k ≡ suc n = omega (arith, g) in subst (λ (i : ℕ). all i f ≡ false) z e

-- ---- one test or another

pub or_no : (a b : Bool) → a || b ≡ false → (a ≡ false) × (b ≡ false)
or_no true b e = let z : ◌≡◌ {A = ℕ} 0 1 = cc in absurd (omega arith)
or_no false b e = (refl, e)

pub no_or : {a b : Bool} → a ≡ false → b ≡ false → a || b ≡ false
no_or {a} {b} h k = rw (h, k)

pub or_swap : (a b c : Bool) → a || b || c ≡ a || c || b
or_swap a b c = or_assoc a b c ∙ ap (λ x. a || x) (or_comm b c) ∙ sym (or_assoc a c b)

-- (a or b) or (c or d), the inner two exchanged
pub or-middle : (a b c d : Bool) → (a || b) || (c || d) ≡ (a || c) || (b || d)
or-middle true b c d = refl
or-middle false b true d = or_comm b true
or-middle false b false d = refl

pub any_same : (n : ℕ) (f g : ℕ → Bool) → ((k : ℕ) → k < n → f k ≡ g k) → any n f ≡ any n g
any_same zero f g h = refl
any_same (suc n) f g h = ap₂ ◌||◌ (any_same n f g (λ k l. h k (omega arith))) (h n (omega arith))

-- the first m, and n more
any_more : (m n : ℕ) (f : ℕ → Bool) → any (m + n) f ≡ any m f || any n (λ i. f (m + i))
any_more m zero f = rw (add-zero m) (sym (or-false (any m f)))
any_more m (suc n) f = rw (add-suc m n) (ap (λ b. b || f (m + n)) (any_more m n f) ∙ or_assoc (any m f) _ _)

-- q rows of p
pub any-rows : (p q : ℕ) (f : ℕ → Bool) → any q (λ j. any p (λ i. f (j * p + i))) ≡ any (p * q) f
any-rows p zero f = rw (mul-zero p)
any-rows p (suc q) f = rw (mul-suc p q, any_more (p * q) p f) (ap₂ ◌||◌ (any-rows p q f) (ap (λ n. any p (λ i. f (n + i))) (mul_comm q p)))

-- ---- a walk that ends at the first

pub any_yes : (n : ℕ) (f : ℕ → Bool) (k : ℕ) → k < n → f k ≡ true → any n f ≡ true
any_yes zero f k h e = absurd (omega arith)
any_yes (suc n) f k h e = case (dec_le n k) (λ l. any_yes n f k l e)
  where
    case : Dec (n ≤ k) → (k < n → any n f ≡ true) → any n f || f n ≡ true
    case (yes g) below = let z : k ≡ n = omega arith in or_comm (any n f) (f n) ∙ ap (λ b. b || any n f) (subst (λ (i : ℕ). f i ≡ true) z e)
    case (no g) below = ap (λ b. b || f n) (below (omega (arith, g)))

-- none of those below n
abbrev pub None : ℕ → (ℕ → Bool) → Type 0
None n f = (k : ℕ) → k < n → f k ≡ false

pub none_yet : (f : ℕ → Bool) {n : ℕ} → n ≡ 0 → None n f
none_yet f e k h = absurd (omega arith)

pub none_more : (n : ℕ) (f : ℕ → Bool) → None n f → f n ≡ false → {m : ℕ} → m ≡ n + 1 → None m f
none_more n f before e z k h = case (dec_le n k)
  where
    case : Dec (n ≤ k) → f k ≡ false
    case (yes g) = let y : n ≡ k = omega arith in subst (λ (i : ℕ). f i ≡ false) y e
    case (no g) = before k (omega (arith, g))

pub any_none : (n : ℕ) (f : ℕ → Bool) → None n f → any n f ≡ false
any_none zero f h = refl
any_none (suc n) f h = no_or (any_none n f (λ k l. h k (omega arith))) (h n (omega arith))
