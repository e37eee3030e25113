-- One pair of columns after the other.
use Rattle.inverse_levels.proofs.Columns.{pairs_of_columns}
use Rattle.inverse_levels.proofs.edge_columns.Goals as goal

pub returns : goal.returns
returns c = pairs_of_columns c.args.squares.across c.args.squares.down c.args.grid.now _ c.args.squares.wide c.column_pair.ensures c.column_pair-2.ensures
