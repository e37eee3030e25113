-- Sizes of pictures, in macroblocks, and the permitted modes and sizes (01, "Pictures, planes and units").
use Rattle.std.specs.Prelude.{ℕ, ◌*◌, ◌≤◌, ◌<◌}
use Rattle.picture.specs.declared.size.Size.{Size}

-- n, the macroblocks of a picture
abbrev pub macroblocks : Size → ℕ
macroblocks size = size.width.0 * size.height.0

-- W from 1 to 525 and H from 1 to 413
pub record Sized (size : Size) : Type 0 where
  pub wide : 0 < size.width.0
  pub most-wide : size.width.0 ≤ 525
  pub tall : 0 < size.height.0
  pub most-tall : size.height.0 ≤ 413

-- modes 0, 1 and 2; W from 1 to 525 and H from 1 to 413
pub record Shape (mode : ℕ) (size : Size) : Type 0 where
  pub known : mode ≤ 2
  pub sized : Sized size
