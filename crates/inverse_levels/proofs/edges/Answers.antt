-- The rows, then the columns, and then the corners.
use Rattle.inverse_levels.proofs.Loops.{then_more}
use Rattle.inverse_levels.proofs.edges.Goals as goal

pub returns : goal.returns
returns c = then_more _ _ _ c.edge_rows.ensures (then_more _ _ _ c.edge_columns.ensures c.corners.ensures)
