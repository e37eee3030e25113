-- One row after another.
use Rattle.inverse_levels.proofs.Loops.{then_more}
use Rattle.inverse_levels.proofs.edge_rows.Goals as goal

pub returns : goal.returns
returns c = then_more _ _ _ c.row_filters.ensures (then_more _ _ _ c.row_filters-2.ensures (then_more _ _ _ c.row_filters-3.ensures c.row_filters-4.ensures))
