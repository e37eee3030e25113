-- The claim about steps, cited at every index; the rule's halves by their tests.
use Prim.Native.Nat.{ℕ, suc, ◌+◌, ◌-◌, ◌*◌, ◌/◌, ◌%◌, ◌^◌, ◌≤◌}
use mathlib.Core.Path.{◌≡◌, refl, sym, ap, ◌∙◌}
use native.Mathlib.Omega.{arith}
use native.Mathlib.Nat.{mul_comm, mul_assoc}
use native.Mathlib.Numerals.{unary_clauses}
use lib.IntN.{pos, negsuc}
use borrow.Author.Tests.{le-ltb, ltb-false}
use Rattle.step_sizes.specs.Steps.{step_of}
use Rattle.step_sizes.specs.Levels.{quantised}
use Rattle.step_sizes.proofs.Claims.{step_claim}
use Rattle.corollaries.specs.Steps.{StepsDouble, SignAndMagnitude, EveryIndexRounds, StepOneKeeps, OutOfRangeIsTold}
use Rattle.corollaries.proofs.Sizes.{fits, in_range}

large : (index : ℕ) → 16 ≤ index → step_of index ≡ (16 + index % 16) * 2 ^ (index / 16 - 1)
unfolding step_of
large index h = simp (le-ltb index 1 (omega arith), le-ltb index 16 h)

double : (a k : ℕ) → a * 2 ^ suc k ≡ 2 * (a * 2 ^ k)
double a k = simp unary_clauses (rw (mul_comm 2 (a * 2 ^ k)) (sym (mul_assoc a (2 ^ k) 2)))

pub steps_double : StepsDouble
steps_double index h =
    let q : (index + 16) / 16 - 1 ≡ suc (index / 16 - 1) = omega arith in
    let r : (index + 16) % 16 ≡ index % 16 = omega arith in
    large (index + 16) (omega arith) ∙ rw (q, r) (double (16 + index % 16) (index / 16 - 1)) ∙ ap (λ k. 2 * k) (sym (large index h))

pub sign_and_magnitude : SignAndMagnitude
unfolding quantised
sign_and_magnitude step n = (refl, refl, λ level. refl)

pub every_index_rounds : EveryIndexRounds
every_index_rounds index h =
    let r = step_claim.rounds index h in
    (r.zero, λ x f. in_range _ (r.fits x (fits x f)), r.near, r.again)

pub step_one_keeps : StepOneKeeps
unfolding step_of
step_one_keeps x = let k = step_claim.kept x in (k.0, k.1, k.0, k.1)

pub out_of_range_is_told : OutOfRangeIsTold
out_of_range_is_told (pos n) = (λ e. ltb-false 2147483647 n e, λ h. le-ltb 2147483647 n h)
out_of_range_is_told (negsuc n) = (λ e. ltb-false 2147483647 n e, λ h. le-ltb 2147483647 n h)
