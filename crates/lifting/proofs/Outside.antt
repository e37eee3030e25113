-- When a reduction changes a number: where it is outside the signed 32-bit range, by cases on which side of the range it is.
use Prim.Native.Nat.{suc, ◌+◌, ◌<◌}
use mathlib.Core.Path.{◌≡◌, refl, sym, ◌∙◌, subst}
use mathlib.Core.Bool.{Bool, true, false, ◌||◌}
use native.Mathlib.Omega.{arith}
use borrow.Author.Tests.{ltb-true}
use lib.Dec.{T}
use lib.IntN.{ℤ, pos, negsuc, ◌+ℤ◌, ◌*ℤ◌}
use lib.Signed.{lt_z}
use mir.Val.{SFits}
use mir.Syntax.{w32}
use Rattle.lifting.specs.Wrap.{wrap}
use Rattle.lifting.specs.Wraps.{changes}
use Rattle.lifting.proofs.WrapLaws.{wrap-fits, three_times}
use Rattle.lifting.proofs.Bits.{mid}
use Rattle.lifting.proofs.NoWrap.{fits-calm, calm}

outside-changes : (z : ℤ) → (SFits w32 z → ⊥) → changes z ≡ true
outside-changes z h = go (changes z) refl
  where
    go : (b : Bool) → changes z ≡ b → b ≡ true
    go true e = refl
    go false e = absurd (h (subst (λ x. SFits w32 x) (calm z e) (wrap-fits z)))

pub above : (s : ℤ) → lt_z (pos 2147483647) s ≡ true → true ≡ changes s
above (pos n) t = sym (outside-changes _ (λ f. let h : 2147483647 < n = ltb-true _ _ t in let g : n < 2147483648 = f.sfits in omega arith))
above (negsuc n) t = absurd (subst (λ (b : Bool). T b) (sym t) tt)

below : (s : ℤ) → lt_z s (negsuc 2147483647) ≡ true → true ≡ changes s
below (pos n) t = absurd (subst (λ (b : Bool). T b) (sym t) tt)
below (negsuc n) t = sym (outside-changes _ (λ f. let h : 2147483647 < n = ltb-true _ _ t in let g : n < 2147483648 = f.sfits in omega arith))

-- not above: outside where it is below
pub not-above : (s : ℤ) → lt_z (pos 2147483647) s ≡ false → lt_z s (negsuc 2147483647) ≡ changes s
not-above s h = go (lt_z s (negsuc 2147483647)) refl
  where
    go : (b : Bool) → lt_z s (negsuc 2147483647) ≡ b → b ≡ changes s
    go true e = below s e
    go false e = sym (fits-calm (mid s h e).small)

fits_less : (a : ℤ) → SFits w32 (a +ℤ a +ℤ a) → SFits w32 (a +ℤ a)
fits_less (pos n) f = let g : n + n + n < 2147483648 = f.sfits in record { sfits = omega arith }
fits_less (negsuc n) f = let g : suc (suc (n + n) + n) < 2147483648 = f.sfits in record { sfits = omega arith }

-- three times a number is outside the range where twice the number is, or what is left of that and the number once more
pub thrice_changes : (a : ℤ) → changes (a +ℤ a) || changes (wrap (a +ℤ a) +ℤ a) ≡ changes (pos 3 *ℤ a)
thrice_changes a = go (changes (a +ℤ a)) refl
  where
    go : (b : Bool) → changes (a +ℤ a) ≡ b → b || changes (wrap (a +ℤ a) +ℤ a) ≡ changes (pos 3 *ℤ a)
    go true e = rw (three_times a) (sym (outside-changes _ (λ f. let z : ◌≡◌ {A = Bool} true false = sym e ∙ fits-calm (fits_less a f) in subst T z tt)))
    go false e = rw (three_times a, calm _ e)
