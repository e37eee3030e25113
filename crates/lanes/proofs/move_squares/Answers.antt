-- Four rows of sixteen are the four squares.
use Rattle.lanes.proofs.Rows.{all_placed}
use Rattle.lanes.proofs.move_squares.Goals as goal

pub returns : goal.returns
returns c = all_placed _ _ _ _ _ _ _ _ c.requires.0 c.move_row.ensures c.move_row-2.ensures c.move_row-3.ensures c.move_row-4.ensures
