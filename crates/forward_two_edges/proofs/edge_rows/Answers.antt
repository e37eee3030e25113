-- Row after row, each begins a row of samples after the one before.
use native.Mathlib.Omega.{arith}
use Rattle.forward_two_edges.proofs.edge_rows.Goals as goal

pub edge_row-requires-clause-edge : goal.edge_row-requires-clause-edge
edge_row-requires-clause-edge c = c.requires.by_index c.loop-y.y c.loop-y.invariant.0.from (omega arith)
