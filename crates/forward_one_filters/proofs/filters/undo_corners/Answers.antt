-- Four corners, one after another.
use Rattle.forward_one_filters.specs.Edges.{corners}
use Rattle.forward_one_filters.proofs.Edges.{four_undone}
use Rattle.forward_one_filters.proofs.filters.undo_corners.Goals as goal

pub returns : goal.returns
unfolding corners
returns c =
    four_undone _ _ _ _ _ (rw c.corner.ensures at c.undo_four_filter.ensures) (rw c.corner-2.ensures at c.undo_four_filter-2.ensures)
    (rw c.corner-3.ensures at c.undo_four_filter-3.ensures) (rw c.corner-4.ensures at c.undo_four_filter-4.ensures)
