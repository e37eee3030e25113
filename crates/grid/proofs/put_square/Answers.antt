-- Four rows of four are the square.
use Rattle.grid.proofs.Squares.{square_stored}
use Rattle.grid.proofs.put_square.Goals as goal

pub returns : goal.returns
returns c = square_stored _ _ _ _ c.put_four.ensures c.put_four-2.ensures c.put_four-3.ensures c.put_four-4.ensures
