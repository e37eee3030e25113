-- Four lines, one after another.
use Rattle.forward_one_filters.specs.Edges.{edges}
use Rattle.forward_one_filters.proofs.Edges.{four_undone}
use Rattle.forward_one_filters.proofs.filters.undo_edges.Goals as goal

pub returns : goal.returns
unfolding edges
returns c =
    four_undone _ _ _ _ _ (rw c.line.ensures at c.undo_line.ensures) (rw c.line-2.ensures at c.undo_line-2.ensures)
    (rw c.line-3.ensures at c.undo_line-3.ensures) (rw c.line-4.ensures at c.undo_line-4.ensures)
