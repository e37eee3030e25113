-- What holds of every picture and every tolerance: index 0 passes, and so does whatever index answers (02, c).
use Rattle.std.specs.Prelude.{ℕ, ◌*◌, ◌≡◌, true, List, ℤ}
use Rattle.lifting.specs.Row.{Row}
use Rattle.picture.specs.declared.size.Size.{Size}
use Rattle.picture.specs.Sizes.{macroblocks, Shape}
use Rattle.tries.specs.Tries.{passes, tried_samples}
use Rattle.find_step.specs.FindStep.{Answer}

pub record Kept (mode : ℕ) (size : Size) (samples : List ℤ) (tolerance : ℕ) : Type 0 where
  -- index 0 always passes, and leaves the samples as they are
  pub zero : passes mode size samples tolerance 0 ≡ true
  pub same : tried_samples mode size samples 0 ≡ samples
  -- what is answered keeps the tolerance
  pub answered : (index : ℕ) → Answer (passes mode size samples tolerance) index → passes mode size samples tolerance index ≡ true

abbrev pub FindStepClaim : Type 0
FindStepClaim = (mode : ℕ) (size : Size) → Shape mode size → (samples : List ℤ) → Row (256 * macroblocks size) samples → (tolerance : ℕ) → Kept mode size samples tolerance
