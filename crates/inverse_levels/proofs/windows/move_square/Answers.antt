-- The square that is read is the one that is stored.
use Rattle.inverse_levels.proofs.windows.move_square.Goals as goal

pub returns : goal.returns
returns c = rw c.get_square.ensures at c.put_square.ensures
