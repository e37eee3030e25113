-- Division as a multiplication and a shift: a multiplier that is P / d rounded up gives each quotient whose error stays below P; that it does for every step of the table is computed.
use Prim.Native.Nat.{min, ℕ, suc, ◌+◌, ◌-◌, ◌*◌, ◌/◌, ◌%◌, ◌^◌, ◌≤◌, ◌<◌}
use mathlib.Core.Path.{◌≡◌, sym, ◌∙◌, ap}
use mathlib.Core.Bool.{Bool, true, ◌&&◌}
use mathlib.Core.List.{List, [], ◌∷◌}
use native.Mathlib.Omega.{arith}
use native.Mathlib.Nat.{le_trans, le_of_eq, lt_of_lt_of_le, lt_of_le_of_lt, mul_assoc, mul_right_comm, mul-add, mul-le-mul_left, mul-le-mul_right, lt_of_mul-lt-mul_right, lt-suc_self, div-mul-le_self, div-lt_iff_lt-mul, div-eq_of_lt-le, suc-mul, pow-le-pow_right}
use native.Mathlib.Numerals.{add-one}
use lib.Dec.{T, ltb, leb, ltb→lt, leb→le}
use lib.Count.{count_leading_zeros}
use mir.Facts.{and_yes}
use Rattle.lifting.proofs.Tests.{all-at}
use Rattle.step_sizes.specs.Steps.{step_of, largest_step}

-- m * d is P and a rest e, and n * e is below P: n * m / P is n / d
module _ (d m P e n : ℕ) (positive : 0 < d) (product : m * d ≡ P + e) (small : n * e < P) where
  under : n / d * P ≤ n * m
  under =
      le_trans (mul-le-mul_left (n / d) (omega (arith, product)))
      (le_trans (le_of_eq (sym (mul_assoc (n / d) m d) ∙ mul_right_comm (n / d) m d)) (mul-le-mul_right m (div-mul-le_self n d)))

  -- both sides times d: n * m * d is n * P + n * e, and less than suc n * P
  over : n * m < suc (n / d) * P
  over =
      lt_of_mul-lt-mul_right d
      (lt_of_lt_of_le (omega (arith, mul_assoc n m d ∙ ap (λ (k : ℕ). n * k) product ∙ mul-add n P e, suc-mul n P))
      (le_trans (mul-le-mul_right P ((div-lt_iff_lt-mul positive).0 (lt-suc_self (n / d)))) (le_of_eq (mul_right_comm (suc (n / d)) d P))))

  pub reciprocal : n * m / P ≡ n / d
  reciprocal = div-eq_of_lt-le P under (rw (add-one (n / d)) over)

-- ---- what is computed for a step

abbrev pub shift_of : ℕ → ℕ
shift_of d = 63 - count_leading_zeros 32 (d - 1)

abbrev pub power_of : ℕ → ℕ
power_of d = 1 * 2 ^ shift_of d % 2 ^ 64

abbrev pub multiplier_of : ℕ → ℕ
multiplier_of d = power_of d / d + min 1 (power_of d % d)

-- the rest that is left of the multiplier's product with d
abbrev rest_of : ℕ → ℕ
rest_of d = multiplier_of d * d - 2 ^ shift_of d

-- what the code asks of them, and what a reciprocal does: the rest stays below 2^shift for the largest magnitude with half a step added
pub record Works (d : ℕ) : Type 0 where
  pub positive : 0 < d
  pub small : d ≤ largest_step
  pub shift : shift_of d < 64
  pub wide : power_of d + d < 2 ^ 64
  pub multiplier : multiplier_of d < 2 ^ 32
  pub least : 2 ^ shift_of d ≤ multiplier_of d * d
  pub rest : (2147483648 + d / 2) * rest_of d < 2 ^ shift_of d

-- the field `wide` follows from `small`: the power is at most 2^63
pub power_fits : (d : ℕ) → d ≤ largest_step → power_of d + d < 2 ^ 64
power_fits d small =
    let most : 2 ^ shift_of d ≤ 2 ^ 63 = pow-le-pow_right (omega arith) {j = 63} (omega arith) in
    omega (arith, most)

-- several tests at once
abbrev together : List Bool → Bool
together [] = true
together (b ∷ tests) = b && together tests

abbrev Each : List Bool → Type 0
Each [] = Unit {0}
Each (b ∷ tests) = T b × Each tests

each_of : (tests : List Bool) → T (together tests) → Each tests
each_of [] t = tt
each_of (b ∷ tests) t = let p = and_yes b (together tests) t in (p.0, each_of tests p.1)

tests : ℕ → List Bool
tests d =
    ltb 0 d ∷ leb d largest_step ∷ ltb (shift_of d) 64
    ∷ ltb (multiplier_of d) (2 ^ 32) ∷ leb (2 ^ shift_of d) (multiplier_of d * d) ∷ ltb ((2147483648 + d / 2) * rest_of d) (2 ^ shift_of d) ∷ []

at-step : (d : ℕ) → T (together (tests d)) → Works d
unfolding tests
at-step d t =
    let (a, (b, (c, (f, (g, (h, _)))))) = each_of (tests d) t in
    record {
      positive = ltb→lt _ _ a;
      small = leb→le _ _ b;
      shift = ltb→lt _ _ c;
      wide = power_fits d (leb→le _ _ b);
      multiplier = ltb→lt _ _ f;
      least = leb→le _ _ g;
      rest = ltb→lt _ _ h;
    }

pub every_step_works : (index : ℕ) → index ≤ 255 → Works (step_of index)
unfolding tests step_of count_leading_zeros
every_step_works index h = at-step (step_of index) (all-at 256 (λ (i : ℕ). together (tests (step_of i))) tt index (omega arith))

pub divides : (d n : ℕ) → Works d → n ≤ 2147483648 + d / 2 → n * multiplier_of d / 2 ^ shift_of d ≡ n / d
divides d n w h =
    reciprocal d (multiplier_of d) (2 ^ shift_of d) (rest_of d) n w.positive (omega (arith, w.least)) (lt_of_le_of_lt (mul-le-mul_right (rest_of d) h) w.rest)
