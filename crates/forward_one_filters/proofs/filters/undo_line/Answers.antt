-- From the last use to the first, each of which begins `pace` squares before the one after: what is still to be undone of the grid as it is now is what
-- was to be undone at first.
use Prim.Native.Nat.{ℕ}
use mathlib.Core.Path.{◌∙◌, ap}
use native.Mathlib.Omega.{arith}
use Rattle.lifting.specs.Program.{undo}
use Rattle.forward_one_grid.specs.Held.{numbers}
use Rattle.forward_one_filters.specs.Edges.{filter_of, line, use_at}
use Rattle.forward_one_filters.proofs.Undoing.{undoing_step, undoing_end}
use Rattle.forward_one_filters.proofs.Edges.{step_back}
use Rattle.forward_one_filters.proofs.filters.undo_line.Goals as goal

pub loop-i-preserved : goal.loop-i-preserved
loop-i-preserved c =
    let a = c.args in
    let k = c.undo_four_filter.auto in
    let v = numbers a.size c.loop-i.dc c.loop-i.low in
    let e = (step_back a.uses.from a.uses.pace c.loop-i.i (omega arith) c.loop-i.invariant.1).1 in
    (undoing_step c.loop-i.invariant.0 (omega arith) k.dc k.low (rw c.at.ensures at c.undo_four_filter.ensures ∙ ap (λ (t : ℕ). undo (filter_of a.size (use_at a.uses t)) v) e), e)

pub returns : goal.returns
unfolding line
returns c = undoing_end c.loop-i.invariant.0 (omega arith)
