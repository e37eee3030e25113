-- The claim about steps: by cases on the sign, each part is the same statement about the magnitude.
use Prim.Native.Nat.{ℕ, zero, suc, ◌+◌, ◌-◌, ◌*◌, ◌/◌, ◌≤◌, ◌<◌}
use mathlib.Core.Path.{◌≡◌, refl, sym, ap, ◌∙◌}
use mathlib.Core.Bool.{Bool, true, false, cond}
use native.Mathlib.Omega.{arith}
use native.Mathlib.Nat.{suc-mul}
use borrow.Author.Tests.{ltb-true, ltb-false}
use lib.Dec.{ltb}
use lib.IntN.{ℤ, pos, negsuc, neg_ℤ, nat_abs, one, ◌-ℤ◌, *ℤ-one, neg_ℤ-neg_ℤ}
use mir.Val.{SFits}
use mir.Syntax.{w32}
use Rattle.step_sizes.specs.Steps.{step_of}
use Rattle.step_sizes.specs.Levels.{quantised, restored}
use Rattle.step_sizes.specs.Claims.{Rounds, StepClaim}
use Rattle.step_sizes.proofs.Reciprocal.{every_step_works}
use Rattle.step_sizes.proofs.Rounding.{level-most, level-low, level-high, level-again}
use Rattle.step_sizes.proofs.Signs.{sign_fits, neg_times}

-- ---- how far two numbers are apart

apart : (a b h : ℕ) (t : Bool) → ltb a b ≡ t → a ≤ b + h → b ≤ a + h → nat_abs (cond t (negsuc (b - suc a)) (pos (a - b))) ≤ h
apart a b h true e p q = omega (arith, ltb-true a b e)
apart a b h false e p q = omega (arith, ltb-false a b e)

pos_apart : (a b h : ℕ) → a ≤ b + h → b ≤ a + h → nat_abs (pos a -ℤ pos b) ≤ h
pos_apart a zero h p q = omega arith
pos_apart a (suc b) h p q = apart a (suc b) h (ltb a (suc b)) refl p q

neg_apart : (n b h : ℕ) → suc n ≤ b + h → b ≤ suc n + h → nat_abs (negsuc n -ℤ neg_ℤ (pos b)) ≤ h
neg_apart n b h p q = rw (neg_ℤ-neg_ℤ (pos b)) (apart b (suc n) h (ltb b (suc n)) refl q p)

-- ---- negative numbers

quantised-neg : (step p : ℕ) → 0 < p → quantised step (neg_ℤ (pos p)) ≡ neg_ℤ (pos ((p + step / 2) / step))
unfolding quantised
quantised-neg step zero h = absurd (omega arith)
quantised-neg step (suc p) h = refl

-- ---- the parts of the claim

zero-level : (step : ℕ) → 0 < step → quantised step (pos 0) ≡ pos 0
unfolding quantised
zero-level step h = ap pos (let l = level-most step 0 h in omega arith)

pub level-fits : (step : ℕ) → 0 < step → (x : ℤ) → SFits w32 x → SFits w32 (quantised step x)
unfolding quantised
level-fits step h x f = sign_fits x ((nat_abs x + step / 2) / step) f (level-most step (nat_abs x) h)

near : (step : ℕ) → 0 < step → (x : ℤ) → nat_abs (x -ℤ restored step (quantised step x)) ≤ step / 2
unfolding quantised
near step h (pos m) = pos_apart m ((m + step / 2) / step * step) (step / 2) (level-low step m h) (level-high step m)
near step h (negsuc n) =
    rw (neg_times ((suc n + step / 2) / step) step)
    (neg_apart n ((suc n + step / 2) / step * step) (step / 2) (level-low step (suc n) h) (level-high step (suc n)))

again : (step : ℕ) → 0 < step → (level : ℤ) → quantised step (restored step level) ≡ level
unfolding quantised
again step h (pos l) = ap pos (level-again step l h)
again step h (negsuc l) = quantised-neg step (suc l * step) (omega (arith, suc-mul l step)) ∙ ap (λ (k : ℕ). neg_ℤ (pos k)) (level-again step (suc l) h)

rounds : (step : ℕ) → 0 < step → Rounds step
rounds step h = record { zero = zero-level step h; fits = level-fits step h; near = near step h; again = again step h }

restored-one : (x : ℤ) → restored 1 x ≡ x
unfolding one
restored-one x = *ℤ-one x

pub step_claim : StepClaim
step_claim = record {
  rounds = λ index h. rounds (step_of index) (every_step_works index h).positive;
  kept = λ x. (ap (quantised 1) (sym (restored-one x)) ∙ again 1 (omega arith) x, restored-one x);
}
