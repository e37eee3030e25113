-- Two lines across the edge between the upper squares, and two between the lower.
use native.Mathlib.Omega.{arith}
use Rattle.forward_one_grid.proofs.Lines.{meeting, lower-inside, window_read}
use Rattle.forward_one_grid.proofs.lent.LevelOne.get_window.Goals as goal

pub returns : goal.returns
returns c =
    window_read (meeting c.width.ensures.sized c.width.ensures.value c.requires) _ _ _ _ _ c.along.ensures c.along-2.ensures c.along-3.ensures c.along-4.ensures c.get_pairs.ensures c.get_pairs-2.ensures c.get_pairs-3.ensures c.get_pairs-4.ensures

pub get_pairs-requires-3 : goal.get_pairs-requires-3
get_pairs-requires-3 c = rw c.along-3.ensures (lower-inside (meeting c.width.ensures.sized c.width.ensures.value c.requires) 0 (omega arith)).1

pub along-requires-4 : goal.along-requires-4
along-requires-4 c = ((lower-inside (meeting c.width.ensures.sized c.width.ensures.value c.requires) 0 (omega arith)).0, omega arith)

pub get_pairs-requires-4 : goal.get_pairs-requires-4
get_pairs-requires-4 c = rw c.along-4.ensures (lower-inside (meeting c.width.ensures.sized c.width.ensures.value c.requires) 1 (omega arith)).1
