-- What the four lines tell.
use Rattle.lifting.specs.Wraps.{undo_wraps}
use Rattle.lifting.proofs.AnyUse.{four-told}
use Rattle.forward_one_filters.specs.Edges.{edges}
use Rattle.forward_one_filters.proofs.told.edges_wrap.Goals as goal

pub returns : goal.returns
unfolding edges
returns c =
    four-told undo_wraps _ _ _ _ _ (rw c.line.ensures at c.line_wraps-first.ensures) (rw c.line-2.ensures at c.line_wraps-second.ensures)
    (rw c.line-3.ensures at c.line_wraps-third.ensures) (rw c.line-4.ensures at c.line_wraps-fourth.ensures)
