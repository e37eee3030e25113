-- Marks, by cases on the sign of the number; joined by bits, each is at most what they make together.
use Prim.Native.Nat.{ℕ, suc, ◌-◌, ◌*◌, ◌≤◌, ◌<◌}
use mathlib.Core.Path.{◌≡◌, refl, subst}
use mathlib.Core.Bool.{Bool, true, false, cond}
use native.Mathlib.Omega.{arith}
use lib.Bits.{bit_or, or_add_and, and_le_l, and_le_r}
use lib.Dec.{ltb}
use borrow.Author.Tests.{ltb-true, ltb-false}
use lib.IntN.{ℤ, pos, negsuc, nat_abs, ◌+ℤ◌}
use lib.Signed.{mag}
use mir.Val.{SFits, to_z, of_z}
use mir.Syntax.{w32}
use Rattle.lifting.specs.Wrap.{low32}
use Rattle.lifting.proofs.Bits.{back}

-- ---- what a mark says of its number

below-cond : (B n : ℕ) (t : Bool) → ltb B (suc n) ≡ t → B ≤ 1073741824 → n < 2147483648 → low32 (cond t (negsuc (suc n - suc B)) (pos (B - suc n))) < 2 * B → suc n ≤ B
below-cond B n true e l h k = absurd (omega (arith, ltb-true B (suc n) e))
below-cond B n false e l h k = ltb-false B (suc n) e

mark-small : (B : ℕ) → B ≤ 1073741824 → (x : ℤ) → SFits w32 x → low32 (x +ℤ pos B) < 2 * B → nat_abs x ≤ B
mark-small B l (pos n) f h = omega (arith, f.sfits)
mark-small B l (negsuc n) f h = below-cond B n (ltb B (suc n)) refl l f.sfits h

-- a number that was marked; its local is the number itself, which is of 32 bits
pub marked : (B : ℕ) → B ≤ 1073741824 → (x : ℤ) → mag x < 2147483648 → {m : ℕ} → m ≡ low32 (to_z w32 (of_z w32 x) +ℤ pos B) → m < 2 * B → nat_abs x ≤ B
marked B l x given e h = mark-small B l x (record { sfits = given }) (subst (λ (m : ℕ). m < 2 * B) (rw (back {x = x} given) at e) h)

-- ---- marks joined

pub joined : (a b k : ℕ) → bit_or a b < k → (a < k) × (b < k)
joined a b k h = (omega (arith, or_add_and a b, and_le_r a b), omega (arith, or_add_and a b, and_le_l a b))
