-- A walk through the numbers below n that ends at the first that fails a test: what `all` over a range says; and pieces of equal length, one after another.
use Prim.Native.Nat.{ℕ, zero, suc, ◌+◌, ◌*◌, ◌<◌}
use mathlib.Core.Path.{◌≡◌, refl, sym, ◌∙◌, ap, ap₂}
use mathlib.Core.Bool.{Bool, true, false, ◌&&◌}
use mathlib.Core.List.{List}
use native.Mathlib.Omega.{arith}
use native.Mathlib.Nat.{add-zero, add-suc, mul-zero, mul-suc}
use lib.ListN.{length, get_or}
use denote.Param.Members.{Mut}
use Rattle.std.specs.Bool.{MatchBool}
use Rattle.std.specs.Fn.{Called}
use Rattle.std.specs.Iterator.{YieldsThen}
use Rattle.std.specs.List.{range_with_len, FoldsTo, AllWithin, HoldsAt}
use Rattle.std.specs.Option.{MatchOption}
use Rattle.std.proofs.iter.Yields.{nat_range_steps}
use Rattle.std.proofs.lemmas.Iterator.{cases_from_all, YieldsList-from_range}
use Rattle.std.proofs.lemmas.List.FromFn.{length-range_with_len, get_or-range_with_len}
use Rattle.std.specs.Prelude.{Option}
use Rattle.std.specs.declared.ops.Range.{Range}
use Rattle.lifting.specs.Tests.{all}
use Rattle.lifting.proofs.Tests.{all_fails}

-- ---- laws of `all`, by induction on n

all_yes : (n : ℕ) (f : ℕ → Bool) → ((k : ℕ) → k < n → f k ≡ true) → all n f ≡ true
all_yes zero f h = refl
all_yes (suc n) f h = rw (all_yes n f (λ k l. h k (omega arith)), h n (omega arith))

all_no : (n k : ℕ) (f : ℕ → Bool) → k < n → f k ≡ false → all n f ≡ false
all_no n k f l e = all_fails n (suc k) f (rw e (and-false (all k f))) (omega arith)
  where
    and-false : (b : Bool) → b && false ≡ false
    and-false true = refl
    and-false false = refl

and-true : (b : Bool) → b ≡ b && true
and-true true = refl
and-true false = refl

and_more : (a b c : Bool) → (a && b) && c ≡ a && (b && c)
and_more true b c = refl
and_more false b c = refl

pub all_same : (n : ℕ) (f g : ℕ → Bool) → ((k : ℕ) → k < n → f k ≡ g k) → all n f ≡ all n g
all_same zero f g h = refl
all_same (suc n) f g h = ap₂ ◌&&◌ (all_same n f g (λ k l. h k (omega arith))) (h n (omega arith))

-- the first m, and n more
all_more : (m n : ℕ) (f : ℕ → Bool) → all (m + n) f ≡ all m f && all n (λ i. f (m + i))
all_more m zero f = rw (add-zero m) (and-true (all m f))
all_more m (suc n) f = rw (add-suc m n) (ap (λ b. b && f (m + n)) (all_more m n f) ∙ and_more (all m f) _ _)

-- q pieces of p
pub all_pieces : (p q : ℕ) (f : ℕ → Bool) → all q (λ j. all p (λ i. f (p * j + i))) ≡ all (p * q) f
all_pieces p zero f = rw (mul-zero p)
all_pieces p (suc q) f = rw (mul-suc p q, all_more (p * q) p f) (ap (λ b. b && all p (λ i. f (p * q + i))) (all_pieces p q f))

-- ---- the walk

-- the test passes at all numbers that the range gives, or fails at one
found : (n : ℕ) (test : ℕ → Bool) (r : Bool) → let all' = range_with_len 0 n in
    MatchBool r (AllWithin (λ x. x < n → test x ≡ true) all' 0 (length all')) ((k : ℕ) × (k < length all') × HoldsAt (λ x. x < n → test x ≡ false) all' k) → r ≡ all n test
found n test r h = case r h
  where
    all' : List ℕ
    all' = range_with_len 0 n

    long : length all' ≡ n
    long = length-range_with_len 0 n

    there : (k : ℕ) → k < n → get_or all' k 0 ≡ k
    there k m = omega (arith, get_or-range_with_len 0 n k 0 m)

    case : (b : Bool) → MatchBool b (AllWithin (λ x. x < n → test x ≡ true) all' 0 (length all')) ((k : ℕ) × (k < length all') × HoldsAt (λ x. x < n → test x ≡ false) all' k) → b ≡ all n test
    case false h = let m : h.0 < n = omega (arith, long, h.1) in sym (all_no n h.0 test m ((rw (there h.0 m) at (h.2 0)) m))
    case true h = sym (all_yes n test (λ k m. (rw (there k m) at (h k 0 (omega arith) (omega (arith, long)))) m))

module _ {F : Type 0} {g : Mut F (ℕ × Unit {0}) Bool} {s u : Range ℕ} {f : F} {r : Bool} (n : ℕ) (test : ℕ → Bool) (starts : s.start ≡ 0) (ends : s.end ≡ n)
    (ran : (xs : List ℕ) × (o : Option ℕ) × (j : F) × YieldsThen nat_range_steps s xs o u × FoldsTo (λ p x q. Called g p (x, tt) true q) f xs j × MatchOption o (r ≡ true) (λ x. (r ≡ false) × ((h : F) × Called g j (x, tt) false h)))
    (still : (x : ℕ) (q : F) → Called g f (x, tt) true q → q ≡ f) (tells : (x : ℕ) (b : Bool) (q : F) → x < n → Called g f (x, tt) b q → b ≡ test x) where
  pub all_below : r ≡ all n test
  all_below =
      found n test r (cases_from_all u f r (λ x. x < n → test x ≡ true) (λ x. x < n → test x ≡ false) ran (YieldsList-from_range 0 n n (rw (starts, ends)) (omega arith))
      (λ x q c. (still x q c, λ l. sym (tells x true q l c))) (λ x q c l. sym (tells x false q l c)))
