-- Division by a step as a multiplication and a shift. No call's contract cites this.
use Rattle.std.specs.Prelude.{ℕ, ◌+◌, ◌*◌, ◌/◌, ◌^◌, ◌≤◌, ◌<◌, ◌≡◌}

-- of every magnitude of 32 bits with half a step added, multiplier and shift give the quotient by the step
pub record Divides (step multiplier shift : ℕ) : Type 0 where
  pub shift_fits : shift < 64
  pub quotient : (n : ℕ) → n ≤ 2147483648 + step / 2 → n * multiplier / 2 ^ shift ≡ n / step
