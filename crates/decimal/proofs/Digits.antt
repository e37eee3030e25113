-- The digits of the definition are those that the standard library writes of a number.
use Rattle.std.proofs.Common.{◌≡◌, ℕ, zero, suc, ◌+◌, ◌*◌, ◌/◌, ◌^◌, ◌<◌, ◌≤◌, ◌∷◌, length, ℤ, pos, negsuc, ap, sym, refl, subst, true, false, nat_abs, arith, rules, length-append}
use lib.Dec.{T}
use lib.Signed.{lt_z}
use native.Mathlib.Nat.{one-le-pow}
use borrow.Author.Tests.{ltb-true, lt-ltb, le-ltb}
use Rattle.std.proofs.Math.Nat.{pow-succ'}
use mir.Syntax.{w32}
use mir.Val.{SFits, of_z, to_z}
use mir.ValLaws.{to_z-of_z}
use Rattle.std.specs.Fmt as F
use Rattle.std.proofs.lemmas.Fmt.{AppendsLastDigit, decimal_from_appends, decimal_digit, decimal_step, length-decimal-le, length-decimal-le_succ}
use Rattle.decimal.specs.Text.{digits_in, digits, decimal}

appends : AppendsLastDigit digits_in
unfolding digits_in
appends = record {
  one = λ k n h. rw (lt-ltb n 10 h, digits_in);
  more = λ k n h. rw (le-ltb n 10 h, digits_in);
}

pub digits_are : (n : ℕ) → n < 2 ^ 64 → F.decimal n ≡ digits n
unfolding digits
digits_are n h = sym (decimal_from_appends digits_in appends (suc n) n h (search (rules, length-decimal-le_succ)))

decimal-is : (x : ℤ) → SFits w32 x → F.signed_decimal x ≡ decimal x
unfolding decimal
decimal-is (pos n) h = let f = h.sfits in digits_are n (omega arith)
decimal-is (negsuc n) h = let f = h.sfits in ap (λ ds. 45 ∷ ds) (digits_are (suc n) (omega arith))

-- one digit more than the power of ten that it reaches
pub digits-count : (k n : ℕ) → 10 ^ k ≤ n → n < 10 * 10 ^ k → n < 2 ^ 64 → length (digits n) ≡ k + 1
digits-count k n a b c = rw (← digits_are n c) (counted k n a b c)
  where
    counted : (k n : ℕ) → 10 ^ k ≤ n → n < 10 * 10 ^ k → n < 2 ^ 64 → length (F.decimal n) ≡ k + 1
    counted zero n a b c = ap length (decimal_digit n (omega arith))
    counted (suc k) n a b c =
        let up : 10 ^ suc k ≡ 10 * 10 ^ k = pow-succ' 10 k in
        let some : 1 ≤ 10 ^ k = one-le-pow k 10 (omega arith) in
        rw (decimal_step n (omega arith) c) (simp length-append (omega (arith, counted k (n / 10) (omega arith) (omega arith) (omega arith))))

-- a number of 32 bits has at most ten digits
pub digits-at-most : (n : ℕ) → n < 2 ^ 32 → length (digits n) ≤ 10
digits-at-most n h = rw (← digits_are n (omega arith)) (length-decimal-le 10 n (omega arith) (omega arith) (omega arith))

-- the text of a number, which a call of any number's text gives by its bits
pub decimal_text : (x : ℤ) → SFits w32 x → F.signed_decimal (to_z w32 (of_z w32 x)) ≡ decimal x
decimal_text x h = rw (to_z-of_z w32 x h) (decimal-is x h)

-- the text by the sign: a byte more than the digits of the magnitude, or just these
pub length-below : (x : ℤ) → lt_z x (pos 0) ≡ true → length (decimal x) ≡ length (digits (nat_abs x)) + 1
unfolding decimal
length-below (pos n) t = absurd (omega (arith, ltb-true n 0 t))
length-below (negsuc n) t = simp length-append (omega arith)

pub length_above : (x : ℤ) → lt_z x (pos 0) ≡ false → length (decimal x) ≡ length (digits (nat_abs x))
unfolding decimal
length_above (pos n) t = refl
length_above (negsuc n) t = absurd (subst T t tt)
