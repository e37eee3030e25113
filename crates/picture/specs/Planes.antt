-- A set of coefficient planes: one DC, one low-pass and one high-pass plane of the same size (01, "Pictures, planes and units").
use Rattle.std.specs.Prelude.{ℕ, ◌*◌, ◌≡◌, List, ℤ, length}
use Rattle.lifting.specs.Row.{Row}
use Rattle.picture.specs.declared.size.Size.{Size}
use Rattle.picture.specs.Sizes.{macroblocks}

pub record Planes : Type 0 where
  pub dc : List ℤ
  pub low : List ℤ
  pub high : List ℤ

abbrev pub planes : List ℤ → List ℤ → List ℤ → Planes
planes dc low high = record { dc = dc; low = low; high = high }

-- each plane of its length, for n macroblocks
pub record Lengths (n : ℕ) (s : Planes) : Type 0 where
  pub dc : length s.dc ≡ n
  pub low : length s.low ≡ 15 * n
  pub high : length s.high ≡ 240 * n

-- and each number any of 32 bits
pub record PlanesOf (size : Size) (s : Planes) : Type 0 where
  pub dc : Row (macroblocks size) s.dc
  pub low : Row (15 * macroblocks size) s.low
  pub high : Row (240 * macroblocks size) s.high
