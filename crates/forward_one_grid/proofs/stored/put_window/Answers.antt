-- Two lines across the edge between the upper squares, and two between the lower.
use Prim.Native.Nat.{◌+◌}
use mathlib.Core.Path.{◌≡◌, ap}
use native.Mathlib.Omega.{arith}
use Rattle.picture.specs.declared.size.Size.{Size}
use Rattle.picture.specs.Sizes.{Sized}
use Rattle.forward_one_grid.specs.declared.places.Window.{Window}
use Rattle.forward_one_grid.specs.Places.{Meets}
use Rattle.forward_one_grid.proofs.Lines.{Meeting, meeting, lower-inside, window_stored}
use Rattle.forward_one_grid.proofs.stored.put_window.Goals as goal

met : {size known : Size} {w : Window} → (known ≡ size) × Sized size → Meets size w → Meeting size w (w.t + known.width.0)
met s m = meeting s.1 (ap (λ (size : Size). size.width.0) s.0) m

pub returns : goal.returns
returns c =
    window_stored (met (c.get.ensures.value, c.get.ensures.sized) c.requires.meets) c.args.b _ c.along.ensures c.along-2.ensures c.along-3.ensures c.along-4.ensures c.put_pairs.ensures c.put_pairs-2.ensures c.put_pairs-3.ensures c.put_pairs-4.ensures

pub along-requires-3 : goal.along-requires-3
along-requires-3 c = ((lower-inside (met (c.get.ensures.value, c.get.ensures.sized) c.requires.meets) 0 (omega arith)).0, omega arith)

pub along-requires-4 : goal.along-requires-4
along-requires-4 c = ((lower-inside (met (c.get.ensures.value, c.get.ensures.sized) c.requires.meets) 0 (omega arith)).0, omega arith)

pub put_pairs-requires-3-clause-inside : goal.put_pairs-requires-3-clause-inside
put_pairs-requires-3-clause-inside c = rw c.along-3.ensures (lower-inside (met (c.get.ensures.value, c.get.ensures.sized) c.requires.meets) 0 (omega arith)).1

pub put_pairs-requires-4-clause-inside : goal.put_pairs-requires-4-clause-inside
put_pairs-requires-4-clause-inside c = rw c.along-4.ensures (lower-inside (met (c.get.ensures.value, c.get.ensures.sized) c.requires.meets) 1 (omega arith)).1
