-- One window after another: those before the next are there.
use native.Mathlib.Omega.{arith}
use Rattle.std.proofs.Common.{rules}
use Rattle.lanes.proofs.Beside.{beside_more}
use Rattle.forward_one_filters.proofs.Edges.{beside_few}
use Rattle.forward_one_filters.proofs.Apart.{sixteen}
use Rattle.forward_one_filters.proofs.windows.get_windows.Goals as goal

pub right-requires : goal.right-requires
right-requires c = let few = beside_few c.args.w.j c.args.w.i c.args.n c.squares.ensures.sized c.requires.below c.requires.beside c.requires.first in (omega arith, omega arith)

pub loop-l-preserved : goal.loop-l-preserved
loop-l-preserved c = beside_more _ c.loop-l.l _ _ _ (omega arith) (search rules) (rw c.right.ensures at c.get_window.ensures) (sixteen _ _ _) c.put_square.ensures c.loop-l.invariant
