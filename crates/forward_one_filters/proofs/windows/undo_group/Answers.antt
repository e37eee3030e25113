-- The windows go into one array, come out of the other undone, and are stored.
use native.Mathlib.Omega.{arith}
use Rattle.forward_one_filters.proofs.Apart.{undone_of}
use Rattle.forward_one_filters.proofs.windows.undo_group.Goals as goal

pub put_windows-requires-clause-by_index : goal.put_windows-requires-clause-by_index
put_windows-requires-clause-by_index c =
    λ l h. undone_of _ _ _ _ l (omega (arith, h, c.requires.beside)) c.undo_four_windows.ensures (rw c.new.ensures at c.get_windows.ensures l h)
