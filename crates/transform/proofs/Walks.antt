-- A walk through the numbers below n that ends at the first that passes a test: what `any` over a range says.
use Prim.Native.Nat.{ℕ, ◌<◌}
use mathlib.Core.Path.{◌≡◌, sym, ◌∙◌, ap}
use mathlib.Core.Bool.{Bool, true, false}
use mathlib.Core.List.{List}
use native.Mathlib.Omega.{arith}
use lib.ListN.{length, get_or}
use lib.IntN.{ℤ}
use denote.Param.Members.{Mut}
use Rattle.std.specs.Bool.{MatchBool}
use Rattle.std.specs.Fn.{Called}
use Rattle.std.specs.Iterator.{YieldsThen}
use Rattle.std.specs.List.{range_with_len, FoldsTo, AllWithin, HoldsAt}
use Rattle.std.specs.Option.{MatchOption}
use Rattle.std.proofs.iter.Yields.{nat_range_steps}
use Rattle.std.proofs.lemmas.Iterator.{cases_from_any, YieldsList-from_range}
use Rattle.std.proofs.lemmas.List.FromFn.{length-range_with_len, get_or-range_with_len}
use Rattle.std.specs.Prelude.{Option}
use Rattle.std.specs.declared.ops.Range.{Range}
use Rattle.lifting.specs.Program.{Program, each}
use Rattle.lifting.specs.Tests.{any}
use Rattle.lifting.specs.AnyUse.{any_use}
use Rattle.lifting.proofs.Tests.{any_same, any_yes, any_none}
use Rattle.lifting.proofs.AnyUse.{any_use_each}

-- the test passes at a number that the range gives, or at none of them
found : (n : ℕ) (test : ℕ → Bool) (r : Bool) → let all = range_with_len 0 n in
    MatchBool r ((k : ℕ) × (k < length all) × HoldsAt (λ x. x < n → test x ≡ true) all k) (AllWithin (λ x. x < n → test x ≡ false) all 0 (length all)) → r ≡ any n test
found n test r h = case r h
  where
    all : List ℕ
    all = range_with_len 0 n

    long : length all ≡ n
    long = length-range_with_len 0 n

    there : (k : ℕ) → k < n → get_or all k 0 ≡ k
    there k m = omega (arith, get_or-range_with_len 0 n k 0 m)

    case : (b : Bool) → MatchBool b ((k : ℕ) × (k < length all) × HoldsAt (λ x. x < n → test x ≡ true) all k) (AllWithin (λ x. x < n → test x ≡ false) all 0 (length all)) → b ≡ any n test
    case true h = let m : h.0 < n = omega (arith, long, h.1) in sym (any_yes n test h.0 m ((rw (there h.0 m) at (h.2 0)) m))
    case false h = sym (any_none n test (λ k m. (rw (there k m) at (h k 0 (omega arith) (omega (arith, long)))) m))

module _ {F : Type 0} {g : Mut F (ℕ × Unit {0}) Bool} {s u : Range ℕ} {f : F} {r : Bool} (n : ℕ) (test : ℕ → Bool) (starts : s.start ≡ 0) (ends : s.end ≡ n)
    (ran : (xs : List ℕ) × (o : Option ℕ) × (j : F) × YieldsThen nat_range_steps s xs o u × FoldsTo (λ p x q. Called g p (x, tt) false q) f xs j × MatchOption o (r ≡ false) (λ x. (r ≡ true) × ((h : F) × Called g j (x, tt) true h)))
    (still : (x : ℕ) (q : F) → Called g f (x, tt) false q → q ≡ f) (tells : (x : ℕ) (b : Bool) (q : F) → x < n → Called g f (x, tt) b q → b ≡ test x) where
  pub any_below : r ≡ any n test
  any_below =
      found n test r (cases_from_any u f r (λ x. x < n → test x ≡ true) (λ x. x < n → test x ≡ false) ran (YieldsList-from_range 0 n n (rw (starts, ends)) (omega arith))
      (λ x q c l. sym (tells x true q l c)) (λ x q c. (still x q c, λ l. sym (tells x false q l c))))

-- a walk through uses, or through lines of them: f i as the walk finds them, and g i as they are defined
pub any_of_uses : (judge : Program → List ℤ → Bool) (n : ℕ) (f g : ℕ → Program) (v : List ℤ) {r : Bool} → r ≡ any n (λ i. any_use judge (f i) v) → ((i : ℕ) → f i ≡ g i) → r ≡ any_use judge (each n g) v
any_of_uses judge n f g v e h = e ∙ any_same n _ _ (λ i l. ap (λ p. any_use judge p v) (h i)) ∙ sym (any_use_each judge n g v)
