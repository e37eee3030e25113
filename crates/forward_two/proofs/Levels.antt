-- The unfiltered samples are as many as the samples.
use Prim.Native.Nat.{◌*◌, ◌<◌}
use mathlib.Core.Path.{◌≡◌}
use mathlib.Core.List.{List}
use native.Mathlib.Omega.{arith}
use lib.ListN.{length}
use lib.IntN.{ℤ}
use Rattle.picture.specs.declared.size.Size.{Size}
use Rattle.forward_two_edges.specs.Unfiltered.{unfiltered}
use Rattle.forward_two_edges.proofs.Numbers.{length-unfiltered}

pub as_many : (size : Size) (samples : List ℤ) → 0 < size.width.0 → 0 < size.height.0 → length (unfiltered size samples) ≡ length samples
unfolding unfiltered
as_many size samples wide tall = length-unfiltered (4 * size.width.0) (4 * size.height.0) samples (omega arith) (omega arith)
