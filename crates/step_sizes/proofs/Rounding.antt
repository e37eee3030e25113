-- Rounding to the nearest multiple of a step: everything follows from one division of the magnitude and half a step, with its remainder.
use Prim.Native.Nat.{ℕ, suc, ◌+◌, ◌*◌, ◌/◌, ◌≤◌, ◌<◌}
use mathlib.Core.Path.{◌≡◌}
use native.Mathlib.Omega.{arith}
use native.Mathlib.Nat.{suc-mul, mod-lt, div-add-mod', div-lt_iff_lt-mul, div-eq_of_lt-le, le-mul_of_pos_right}
use native.Mathlib.Numerals.{add-one}

-- the level's magnitude is no larger than the coefficient's
pub level-most : (step m : ℕ) → 0 < step → (m + step / 2) / step ≤ m
level-most step m h =
    let wide : m + step / 2 < suc m * step = omega (arith, suc-mul m step, le-mul_of_pos_right m h) in
    let less : (m + step / 2) / step < suc m = (div-lt_iff_lt-mul h).1 wide in
    omega arith

-- it is near the coefficient's magnitude, from both sides
pub level-low : (step m : ℕ) → 0 < step → m ≤ (m + step / 2) / step * step + step / 2
level-low step m h = omega (arith, div-add-mod' (m + step / 2) step, mod-lt (m + step / 2) h)

pub level-high : (step m : ℕ) → (m + step / 2) / step * step ≤ m + step / 2
level-high step m = omega (arith, div-add-mod' (m + step / 2) step)

-- a multiple of the step is the level times the step
pub level-again : (step l : ℕ) → 0 < step → (l * step + step / 2) / step ≡ l
level-again step l h = div-eq_of_lt-le step (omega arith) (rw (add-one l) (omega (arith, suc-mul l step)))
