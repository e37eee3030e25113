-- What the four corners tell.
use Rattle.lifting.specs.Wraps.{undo_wraps}
use Rattle.lifting.proofs.AnyUse.{four-told}
use Rattle.forward_one_filters.specs.Edges.{corners}
use Rattle.forward_one_filters.proofs.told.corners_wrap.Goals as goal

pub returns : goal.returns
unfolding corners
returns c =
    four-told undo_wraps _ _ _ _ _ (rw c.corner.ensures at c.four_wraps-top_left.ensures) (rw c.corner-2.ensures at c.four_wraps-top_right.ensures)
    (rw c.corner-3.ensures at c.four_wraps-bottom_left.ensures) (rw c.corner-4.ensures at c.four_wraps-bottom_right.ensures)
