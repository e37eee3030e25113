-- What a user makes sure of before a call, in the paper's figures.
use Rattle.std.specs.Prelude.{ℕ, ◌*◌, ◌≤◌, ◌≡◌, length}
use Rattle.picture.specs.declared.size.Size.{Size}
use Rattle.picture.specs.Planes.{Planes}
use Rattle.bands.specs.declared.steps.Steps.{Steps}

-- mode 0, 1 or 2; W from 1 to 525 and H from 1 to 413
pub record Right (mode : ℕ) (size : Size) : Type 0 where
  pub known : mode ≤ 2
  pub wide : 1 ≤ size.width.0
  pub most-wide : size.width.0 ≤ 525
  pub tall : 1 ≤ size.height.0
  pub most-tall : size.height.0 ≤ 413

abbrev pub count : Size → ℕ
count size = size.width.0 * size.height.0

-- each index one of the table
pub record Indices (steps : Steps) : Type 0 where
  pub dc : steps.dc ≤ 255
  pub low : steps.low ≤ 255
  pub high : steps.high ≤ 255

-- planes as long as those of n macroblocks
pub record Room (n : ℕ) (s : Planes) : Type 0 where
  pub dc : length s.dc ≡ n
  pub low : length s.low ≡ 15 * n
  pub high : length s.high ≡ 240 * n
