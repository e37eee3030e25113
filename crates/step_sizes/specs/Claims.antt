-- What holds of every number and every step of the table (02, a).
use Rattle.std.specs.Prelude.{ℕ, ◌/◌, ◌≤◌, ◌≡◌, ℤ, pos, nat_abs, ◌-ℤ◌}
use Rattle.std.proofs.Common.{SFits}
use Rattle.std.specs.Int.{w32}
use Rattle.step_sizes.specs.Steps.{step_of}
use Rattle.step_sizes.specs.Levels.{quantised, restored}

-- zero gives zero; the level of any number of 32 bits, -2147483648 too, is a number of 32 bits; the error is at most step div 2, over whole numbers;
-- and a restored level quantises to itself
pub record Rounds (step : ℕ) : Type 0 where
  pub zero : quantised step (pos 0) ≡ pos 0
  pub fits : (x : ℤ) → SFits w32 x → SFits w32 (quantised step x)
  pub near : (x : ℤ) → nat_abs (x -ℤ restored step (quantised step x)) ≤ step / 2
  pub again : (level : ℤ) → quantised step (restored step level) ≡ level

pub record StepClaim : Type 0 where
  pub rounds : (index : ℕ) → index ≤ 255 → Rounds (step_of index)
  -- step 1 changes nothing
  pub kept : (x : ℤ) → (quantised 1 x ≡ x) × (restored 1 x ≡ x)
