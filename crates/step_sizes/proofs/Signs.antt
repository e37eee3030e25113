-- Magnitudes and signs, and products that leave the range: by cases on the sign, each is a statement about natural numbers.
use Prim.Native.Nat.{ℕ, zero, suc, ◌+◌, ◌-◌, ◌*◌, ◌/◌, ◌%◌, ◌≤◌, ◌<◌}
use mathlib.Core.Path.{◌≡◌, refl, subst, sym, ap}
use mathlib.Core.Bool.{Bool, true, false, ◌||◌, or-false}
use native.Mathlib.Omega.{arith}
use native.Mathlib.Nat.{suc-mul, mod-lt, div-add-mod', div-mul-le_self, mul-le-mul_right, div-lt_iff_lt-mul}
use borrow.Author.Tests.{ltb-true, ltb-false, lt-ltb, le-ltb}
use lib.Dec.{T, ltb}
use lib.IntN.{ℤ, pos, negsuc, neg_ℤ, nat_abs, ◌*ℤ◌}
use lib.Signed.{lt_z}
use mir.Val.{SFits, to_z}
use mir.Syntax.{w32}
use Rattle.lifting.specs.Wrap.{low32, wrap}
use Rattle.step_sizes.specs.Levels.{signed, quantised, restored, is_out_of_range}

-- ---- the two signs

negative_sign : (x : ℤ) (m : ℕ) → lt_z x (pos 0) ≡ true → signed x m ≡ neg_ℤ (pos m)
negative_sign (pos n) m t = absurd (omega (arith, ltb-true n 0 t))
negative_sign (negsuc n) m t = refl

other_sign : (x : ℤ) (m : ℕ) → lt_z x (pos 0) ≡ false → signed x m ≡ pos m
other_sign (pos n) m t = refl
other_sign (negsuc n) m t = absurd (subst (λ (b : Bool). T b) t tt)

pub negative_fits : (m : ℕ) → m ≤ 2147483648 → SFits w32 (neg_ℤ (pos m))
negative_fits zero h = record { sfits = omega arith }
negative_fits (suc m) h = record { sfits = omega arith }

pub neg_times : (q s : ℕ) → neg_ℤ (pos q) *ℤ pos s ≡ neg_ℤ (pos (q * s))
neg_times zero s = let z : 0 * s ≡ 0 = omega arith in rw z
neg_times (suc q) s = refl

-- a magnitude that is no larger, with the same sign
pub sign_fits : (x : ℤ) (m : ℕ) → SFits w32 x → m ≤ nat_abs x → SFits w32 (signed x m)
sign_fits (pos n) m f h = record { sfits = omega (arith, f.sfits) }
sign_fits (negsuc n) m f h = negative_fits m (omega (arith, f.sfits))

-- ---- a magnitude with a sign, in 32 bits

negative_low : (m : ℕ) → m < 4294967296 → low32 (neg_ℤ (pos m)) ≡ (4294967296 - m) % 4294967296
negative_low zero h = omega arith
negative_low (suc m) h = omega arith

-- the number of 32 bits, and that number negated
pub kept_sign : (x : ℤ) (m : ℕ) → m < 4294967296 → lt_z x (pos 0) ≡ false → wrap (signed x m) ≡ to_z w32 m
unfolding wrap
kept_sign x m h t = rw (other_sign x m t) (ap (to_z w32) (omega arith))

pub turned_sign : (x : ℤ) (m : ℕ) → m < 4294967296 → lt_z x (pos 0) ≡ true → wrap (signed x m) ≡ to_z w32 ((4294967296 - m) % 4294967296)
unfolding wrap
turned_sign x m h t = rw (negative_sign x m t) (ap (to_z w32) (negative_low m h))

-- ---- products outside the range

same_test : (a b c d : ℕ) → (a < b → c < d) → (c < d → a < b) → ltb a b ≡ ltb c d
same_test a b c d f g = case (ltb c d) refl
  where
    case : (t : Bool) → ltb c d ≡ t → ltb a b ≡ t
    case true e = lt-ltb a b (g (ltb-true c d e))
    case false e = let n : ¬ (a < b) = λ h. omega (arith, f h, ltb-false c d e) in le-ltb a b (omega (arith, n))

-- more than the quotient of a bound: the product is more than the bound
quotient_test : (s bound n : ℕ) → 0 < s → ltb (bound / s) n ≡ ltb bound (n * s)
quotient_test s bound n h = same_test _ _ _ _ (div-lt_iff_lt-mul h).0 (div-lt_iff_lt-mul h).1

-- a negative number below another, and one below the range, by magnitudes
below_test : (n k : ℕ) → lt_z (negsuc n) (neg_ℤ (pos k)) ≡ ltb k (suc n)
below_test n zero = sym (lt-ltb 0 (suc n) (omega arith))
below_test n (suc k) = same_test k n (suc k) (suc n) (λ h. omega arith) (λ h. omega arith)

below_range : (p : ℕ) → is_out_of_range (neg_ℤ (pos p)) ≡ ltb 2147483648 p
below_range zero = refl
below_range (suc p) = same_test 2147483647 p 2147483648 (suc p) (λ h. omega arith) (λ h. omega arith)

not-below : (n k : ℕ) → lt_z (pos n) (neg_ℤ (pos k)) ≡ false
not-below n zero = le-ltb n 0 (omega arith)
not-below n (suc k) = refl

pub outside_limits : (s : ℕ) → 0 < s → (level : ℤ)
    → lt_z level (neg_ℤ (pos (2147483648 / s))) || lt_z (pos (2147483647 / s)) level ≡ is_out_of_range (restored s level)
outside_limits s h (pos n) = rw (not-below n (2147483648 / s)) (quotient_test s 2147483647 n h)
outside_limits s h (negsuc n) =
    rw (below_test n (2147483648 / s), below_range (suc n * s), quotient_test s 2147483648 (suc n) h) (or-false (ltb 2147483648 (suc n * s)))

pub in_range : (z : ℤ) → is_out_of_range z ≡ false → SFits w32 z
in_range (pos n) e = record { sfits = omega (arith, ltb-false 2147483647 n e) }
in_range (negsuc n) e = record { sfits = omega (arith, ltb-false 2147483647 n e) }

-- ---- the product of a coefficient's level

pub signed_product : (s : ℕ) (x : ℤ) → signed x ((nat_abs x + s / 2) / s * s) ≡ restored s (quantised s x)
unfolding quantised
signed_product s (pos n) = refl
signed_product s (negsuc n) = sym (neg_times ((suc n + s / 2) / s) s)

-- ---- coefficients whose level has a product outside the range

-- a magnitude up to a bound is rounded beyond it where it lies above the bound less what the bound's rest has over half a step
abbrev pub top : ℕ → ℕ → ℕ
top bound step = bound - (bound % step - (step - 1 - step / 2))

module _ (bound step m : ℕ) (h : 0 < step) (k : m ≤ bound) where
  above : top bound step < m → bound / step < (m + step / 2) / step
  above f =
      let n : ¬ ((m + step / 2) / step < suc (bound / step)) =
      λ g. omega (arith, (div-lt_iff_lt-mul h).0 g, suc-mul (bound / step) step, div-add-mod' bound step, mod-lt bound h) in
      omega (arith, n)

  not-below-top : bound / step < (m + step / 2) / step → top bound step < m
  not-below-top f =
      omega (arith, mul-le-mul_right step f, div-mul-le_self (m + step / 2) step, suc-mul (bound / step) step, div-add-mod' bound step, mod-lt bound h)

  beyond : ltb (top bound step) m ≡ ltb bound ((m + step / 2) / step * step)
  beyond = rw (← quotient_test step bound ((m + step / 2) / step) h) (same_test (top bound step) m (bound / step) ((m + step / 2) / step) above not-below-top)

pub outside_rounded : (s : ℕ) → 0 < s → (x : ℤ) → SFits w32 x
    → lt_z x (neg_ℤ (pos (top 2147483648 s))) || lt_z (pos (top 2147483647 s)) x ≡ is_out_of_range (restored s (quantised s x))
unfolding quantised
outside_rounded s h (pos n) f = rw (not-below n (top 2147483648 s)) (beyond 2147483647 s n h (omega (arith, f.sfits)))
outside_rounded s h (negsuc n) f =
    rw (below_test n (top 2147483648 s), neg_times ((suc n + s / 2) / s) s, below_range ((suc n + s / 2) / s * s), ← beyond 2147483648 s (suc n) h (omega (arith, f.sfits)))
    (or-false (ltb (top 2147483648 s) (suc n)))
