-- Demand 3, one claim over whole pictures: exactly one set of planes gives a picture, and what differs between two sets changes samples in its windows alone.
use Rattle.std.specs.Prelude.{ℕ, ◌+◌, ◌*◌, ◌<◌, ◌≡◌, List, ℤ}
use Rattle.lifting.specs.Program.{at}
use Rattle.lifting.specs.Row.{Row}
use Rattle.picture.specs.declared.size.Size.{Size}
use Rattle.picture.specs.Sizes.{Shape, macroblocks}
use Rattle.picture.specs.Planes.{Planes, PlanesOf}
use Rattle.transform.specs.Transform.{inverse, forward}
use Rattle.transform.specs.Windows.{InNoWindow}

-- `forward` of these samples is a set of planes that gives them, and no other does
pub record OnePlanes (mode : ℕ) (size : Size) (samples : List ℤ) : Type 0 where
  pub planes : PlanesOf size (forward mode size samples)
  pub gives : inverse mode size (forward mode size samples) ≡ samples
  pub only : (s : Planes) → PlanesOf size s → inverse mode size s ≡ samples → s ≡ forward mode size samples

-- two sets of planes give the same sample at each row y and column x that lies in no window of what differs between them
pub record WholePictures (mode : ℕ) (size : Size) : Type 0 where
  pub one_set : (samples : List ℤ) → Row (256 * macroblocks size) samples → OnePlanes mode size samples
  pub windows : (s t : Planes) (y x : ℕ) → x < 16 * size.width.0 → InNoWindow mode size s t y x
      → at (inverse mode size s) (y * (16 * size.width.0) + x) ≡ at (inverse mode size t) (y * (16 * size.width.0) + x)

abbrev pub WholePictureClaim : Type 0
WholePictureClaim = (mode : ℕ) (size : Size) → Shape mode size → WholePictures mode size
