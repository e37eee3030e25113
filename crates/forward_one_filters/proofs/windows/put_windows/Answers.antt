-- From the last window to the first: what is still to be undone of the grid as it is now is what was to be undone at first.
use Prim.Native.Nat.{◌-◌}
use mathlib.Core.Path.{◌∙◌}
use native.Mathlib.Omega.{arith}
use Rattle.forward_one_filters.proofs.Undoing.{undoing_end}
use Rattle.forward_one_filters.proofs.Apart.{storing_step}
use Rattle.forward_one_filters.proofs.windows.put_windows.Goals as goal

pub loop-l-preserved : goal.loop-l-preserved
loop-l-preserved c =
    let k = c.put_window.auto in
    storing_step _ c.requires.beside.beside (omega arith) c.loop-l.invariant k.dc k.low (c.get_square.ensures ∙ c.requires.by_index (c.loop-l.l - 1) (omega arith)) (rw c.right.ensures at c.put_window.ensures)

pub returns : goal.returns
returns c = undoing_end c.loop-l.invariant.undoing (omega arith)
