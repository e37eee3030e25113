-- What the parts of quantising and restoring promise each other: limits of levels. No call's contract cites this.
use Rattle.std.specs.Prelude.{ℕ, ◌≡◌, ◌||◌, ℤ}
use Rattle.std.specs.Int.Signed.{lt_z}
use Rattle.std.proofs.Common.{SFits}
use Rattle.std.specs.Int.{w32}
use Rattle.step_sizes.specs.declared.number.Limits.{Limits}
use Rattle.step_sizes.specs.Levels.{quantised, restored, is_out_of_range}

-- a level's product with the step leaves the range where the level lies outside the limits
pub record LimitsOf (step : ℕ) (l : Limits) : Type 0 where
  pub outside : (level : ℤ) → lt_z level l.least || lt_z l.most level ≡ is_out_of_range (restored step level)

-- and the product of a coefficient's level where the coefficient does
pub record RoundLimits (step : ℕ) (l : Limits) : Type 0 where
  pub outside : (x : ℤ) → SFits w32 x → lt_z x l.least || lt_z l.most x ≡ is_out_of_range (restored step (quantised step x))
