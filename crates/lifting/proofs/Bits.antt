-- Numbers as the bits that a local holds: what fits 32 bits is read back as it was, and a sum of two such numbers fits 64.
use Prim.Native.Nat.{ℕ, zero, suc, ◌+◌, ◌-◌, ◌≤◌, ◌<◌}
use mathlib.Core.Path.{◌≡◌, ap, ◌∙◌}
use mathlib.Core.Bool.{Bool, true, false}
use mathlib.Core.Bool.{cond}
use native.Mathlib.Omega.{arith}
use lib.Dec.{ltb}
use borrow.Author.Tests.{ltb-false}
use lib.IntN.{ℤ, pos, negsuc, neg_ℤ, ◌+ℤ◌, ◌-ℤ◌}
use lib.Signed.{mag, lt_z, shr_z, mag_shr}
use mir.Val.{SFits, to_z, of_z}
use mir.Syntax.{w32, w64}
use mir.ValLaws.{to_z-of_z, sfits_le}
use Rattle.lifting.specs.Wrap.{wrap, low32}
use Rattle.lifting.proofs.WrapLaws.{wrap-fits}

pub wrap-is : (z y : ℤ) → SFits w32 y → low32 z ≡ of_z w32 y → wrap z ≡ y
unfolding wrap
wrap-is z y f e = ap (to_z w32) e ∙ to_z-of_z w32 y f

pub record Fit (s y : ℤ) : Type 0 where
  pub small : SFits w32 y
  pub same : wrap s ≡ y

fit_of : (s y : ℤ) → SFits w32 y → low32 s ≡ of_z w32 y → Fit s y
fit_of s y f e = record { small = f; same = wrap-is s y f e }

pub widen : {y : ℤ} → SFits w32 y → SFits w64 y
widen f = record { sfits = omega (arith, f.sfits) }

pub mid : (s : ℤ) → lt_z (pos 2147483647) s ≡ false → lt_z s (negsuc 2147483647) ≡ false → Fit s s
mid (pos n) t u = let q = ltb-false 2147483647 n t in fit_of _ _ (record { sfits = omega arith }) (omega arith)
mid (negsuc n) t u = let q = ltb-false 2147483647 n u in fit_of _ _ (record { sfits = omega arith }) (omega arith)

-- how large a sum and a difference are
mag-cond : (a b : ℕ) (t : Bool) → mag (cond t (negsuc (b - suc a)) (pos (a - b))) ≤ a + b
mag-cond a b true = omega arith
mag-cond a b false = omega arith

pub mag-add : (a b : ℤ) → mag (a +ℤ b) ≤ suc (mag a + mag b)
mag-add (pos a) (pos b) = omega arith
mag-add (pos a) (negsuc b) = omega (arith, mag-cond a (suc b) (ltb a (suc b)))
mag-add (negsuc a) (pos b) = omega (arith, mag-cond b (suc a) (ltb b (suc a)))
mag-add (negsuc a) (negsuc b) = omega arith

mag-neg : (a : ℤ) → mag (neg_ℤ a) ≤ suc (mag a)
mag-neg (pos zero) = omega arith
mag-neg (pos (suc n)) = omega arith
mag-neg (negsuc n) = omega arith

-- a signed local holds bits: it is read back as it was
pub back : {x : ℤ} → mag x < 2147483648 → to_z w32 (of_z w32 x) ≡ x
back {x} p = to_z-of_z w32 x (record { sfits = p })

-- a number of 32 bits in the range of 64, and back
pub wide : (a : ℤ) → SFits w32 a → to_z w64 (of_z w64 (to_z w32 (of_z w32 a))) ≡ a
wide a f = rw (to_z-of_z w32 a f) (to_z-of_z w64 a (widen f))

pub cast_fits : (a : ℤ) → SFits w32 a → SFits w64 (to_z w32 (of_z w32 a))
cast_fits a f = rw (to_z-of_z w32 a f) (widen f)

pub record Sum (z : ℤ) : Type 0 where
  pub near : mag z < 6442450944

pub to64 : {z : ℤ} → Sum z → SFits w64 z
to64 n = record { sfits = omega (arith, n.near) }

pub add-near : (a b : ℤ) → SFits w32 a → SFits w32 b → Sum (a +ℤ b)
add-near a b f g = record { near = omega (arith, mag-add a b, f.sfits, g.sfits) }

pub sub-near : (a b : ℤ) → SFits w32 a → SFits w32 b → Sum (a -ℤ b)
sub-near a b f g = record { near = omega (arith, mag-add a (neg_ℤ b), mag-neg b, f.sfits, g.sfits) }

pub shr_back : (a : ℤ) (k : ℕ) → SFits w32 a → to_z w32 (of_z w32 (shr_z (to_z w32 (of_z w32 a)) k)) ≡ shr_z a k
shr_back a k f = rw (to_z-of_z w32 a f) (to_z-of_z w32 (shr_z a k) (sfits_le (mag_shr a k) f))

-- what an operator computes is read back as it was
pub again : (z : ℤ) → to_z w32 (of_z w32 (wrap z)) ≡ wrap z
again z = to_z-of_z w32 (wrap z) (wrap-fits z)

pub again_shr : (z : ℤ) (k : ℕ) → to_z w32 (of_z w32 (shr_z (wrap z) k)) ≡ shr_z (wrap z) k
again_shr z k = to_z-of_z w32 (shr_z (wrap z) k) (sfits_le (mag_shr (wrap z) k) (wrap-fits z))
