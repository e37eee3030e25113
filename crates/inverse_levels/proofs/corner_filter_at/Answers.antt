-- Four numbers of the grid through the filter and back to their places.
use borrow.Author.Rules.{rules}
use mathlib.Core.Path.{◌∙◌}
use Rattle.figures.specs.Block.{four}
use Rattle.transform.specs.Level.{corner_filter_at}
use Rattle.grid.proofs.Squares.{used}
use Rattle.inverse_levels.proofs.corner_filter_at.Goals as goal

pub returns : goal.returns
unfolding corner_filter_at
returns c = used _ _ _ _ (four c.get_corner.result) _ c.get_corner.ensures (c.four_filter.ensures ∙ search rules) (rw c.into.ensures at c.put_corner.ensures)
