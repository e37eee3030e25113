-- Four rows of four are the square.
use Rattle.grid.proofs.Squares.{square_read}
use Rattle.grid.proofs.get_square.Goals as goal

pub returns : goal.returns
returns c = square_read _ _ _ _ _ _ _ c.get_four.ensures c.get_four-2.ensures c.get_four-3.ensures c.get_four-4.ensures
