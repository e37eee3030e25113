-- Laws of `wrap`. Everything goes through the remainder, `low32`, which is a natural number, so that omega can do the rest.
use Prim.Native.Nat.{ℕ, zero, suc, ◌+◌, ◌-◌, ◌%◌, ◌<◌}
use mathlib.Core.Path.{◌≡◌, refl, ◌∙◌, ap, sym}
use mathlib.Core.Bool.{Bool, true, false, not, cond}
use native.Mathlib.Omega.{arith}
use lib.Dec.{T, ltb, ltb→lt, nltb→le}
use lib.IntN.{ℤ, pos, negsuc, neg_ℤ, sub_ℕ, one, suc_ℤ-*ℤ, *ℤ_comm, *ℤ-one, ◌+ℤ◌, ◌-ℤ◌, ◌*ℤ◌}
use mir.Val.{to_z, of_z, SFits, sel}
use mir.Syntax.{w32}
use mir.Facts.{sfits_to_z, to_z_pos, to_z-neg}
use Rattle.std.specs.Int.{int_wrapping_add, int_wrapping_sub}
use Rattle.lifting.specs.Wrap.{low32, wrap}

low_lt : (z : ℤ) → low32 z < 4294967296
low_lt (pos n) = omega arith
low_lt (negsuc n) = omega arith

pub by_cond : (c : Bool) {x y : ℤ} (P : ℤ → Type 0) → (T c → P x) → (T (not c) → P y) → P (cond c x y)
by_cond true P f g = f tt
by_cond false P f g = g tt

by_sel : (c : Bool) {x y : ℤ} (P : ℤ → Type 0) → (T c → P x) → (T (not c) → P y) → P (sel c x y)
by_sel true P f g = f tt
by_sel false P f g = g tt

low-sub : (a b : ℕ) → low32 (sub_ℕ a b) ≡ (a % 4294967296 + (4294967296 - b % 4294967296)) % 4294967296
low-sub a b = by_cond (ltb a b) (λ z. low32 z ≡ (a % 4294967296 + (4294967296 - b % 4294967296)) % 4294967296)
    (λ t. let h = ltb→lt a b t in omega arith) (λ t. let h = nltb→le a b t in omega arith)

low-add : (a b : ℤ) → low32 (a +ℤ b) ≡ (low32 a + low32 b) % 4294967296
low-add (pos a) (pos b) = omega arith
low-add (pos a) (negsuc b) = omega (arith, low-sub a (suc b))
low-add (negsuc a) (pos b) = omega (arith, low-sub b (suc a))
low-add (negsuc a) (negsuc b) = omega arith

low-neg : (a : ℤ) → low32 (neg_ℤ a) ≡ (4294967296 - low32 a) % 4294967296
low-neg (pos zero) = refl
low-neg (pos (suc n)) = omega arith
low-neg (negsuc n) = omega arith

low_to_z : (n : ℕ) → n < 4294967296 → low32 (to_z w32 n) ≡ n
low_to_z n h = by_sel (ltb n 2147483648) (λ z. low32 z ≡ n)
    (λ t. let k = ltb→lt n 2147483648 t in omega arith) (λ t. let k = nltb→le n 2147483648 t in omega arith)

low-wrap : (z : ℤ) → low32 (wrap z) ≡ low32 z
unfolding wrap
low-wrap z = low_to_z (low32 z) (low_lt z)

pub three_times : (a : ℤ) → pos 3 *ℤ a ≡ a +ℤ a +ℤ a
unfolding one
three_times a = suc_ℤ-*ℤ (pos 2) a ∙ ap (λ x. x +ℤ a) (suc_ℤ-*ℤ (pos 1) a ∙ ap (λ x. x +ℤ a) (*ℤ_comm (pos 1) a ∙ *ℤ-one a))

-- two numbers with one residue
pub wrap-same : (x y : ℤ) → low32 x ≡ low32 y → wrap x ≡ wrap y
unfolding wrap
wrap-same x y e = ap (to_z w32) e

pub wrap-fits : (z : ℤ) → SFits w32 (wrap z)
unfolding wrap
wrap-fits z = sfits_to_z (record { fits = low_lt z })

pub wrap_id : {z : ℤ} → SFits w32 z → wrap z ≡ z
unfolding wrap
wrap_id {z = pos n} f = let h = f.sfits in ap (to_z w32) e ∙ to_z_pos w32 h
  where
    e : n % 4294967296 ≡ n
    e = let h = f.sfits in omega arith
wrap_id {z = negsuc n} f = ap (to_z w32) e ∙ to_z-neg w32 n f.sfits
  where
    e : 4294967295 - n % 4294967296 ≡ 4294967296 - suc n
    e = let h = f.sfits in omega arith

pub add-sub : {a : ℤ} (t : ℤ) → SFits w32 a → wrap (wrap (a +ℤ t) -ℤ t) ≡ a
add-sub {a} t f = wrap-same _ _ (simp (low-add, low-wrap, low-neg) (omega (arith, low_lt a, low_lt t))) ∙ wrap_id f

pub sub-add : {a : ℤ} (t : ℤ) → SFits w32 a → wrap (wrap (a -ℤ t) +ℤ t) ≡ a
sub-add {a} t f = wrap-same _ _ (simp (low-add, low-wrap, low-neg) (omega (arith, low_lt a, low_lt t))) ∙ wrap_id f

pub from_from : {a : ℤ} (t : ℤ) → SFits w32 a → wrap (t -ℤ wrap (t -ℤ a)) ≡ a
from_from {a} t f = wrap-same _ _ (omega (arith, low_lt a, low_lt t, low-add t (neg_ℤ (wrap (t -ℤ a))), low-neg (wrap (t -ℤ a)), low-wrap (t -ℤ a), low-add t (neg_ℤ a), low-neg a)) ∙ wrap_id f

pub neg-neg : {a : ℤ} → SFits w32 a → wrap (neg_ℤ (wrap (neg_ℤ a))) ≡ a
neg-neg {a} f = wrap-same _ _ (simp (low-wrap, low-neg) (omega (arith, low_lt a))) ∙ wrap_id f

pub three : (a : ℤ) → wrap (wrap (a +ℤ a) +ℤ a) ≡ wrap (pos 3 *ℤ a)
three a = wrap-same _ _ (simp (three_times, low-add, low-wrap) (omega arith))

-- the bits of a number are its remainder
bits_low : (z : ℤ) → SFits w32 z → of_z w32 z ≡ low32 z
bits_low (pos n) f = let h = f.sfits in omega arith
bits_low (negsuc n) f = let h = f.sfits in omega arith

-- what `wrapping_add` and `wrapping_sub` make of two numbers
module _ {a b : ℤ} (f : SFits w32 a) (g : SFits w32 b) where
  pub added : int_wrapping_add w32 a b ≡ wrap (a +ℤ b)
  unfolding wrap
  added = ap (to_z w32) (rw (bits_low a f, bits_low b g) (sym (low-add a b)))

  pub subtracted : int_wrapping_sub w32 a b ≡ wrap (a -ℤ b)
  unfolding wrap
  subtracted = ap (to_z w32) (rw (bits_low a f, bits_low b g) (omega (arith, low-add a (neg_ℤ b), low-neg b, low_lt b)))
