-- From the last windows to the first: what is still to be undone of the grid as it is now is what was to be undone at first.
use Prim.Native.Nat.{ℕ, ◌-◌, ◌*◌, min}
use mathlib.Core.Path.{◌≡◌, ◌∙◌, ap}
use native.Mathlib.Omega.{arith}
use Rattle.lifting.specs.Program.{undo}
use Rattle.forward_one_grid.specs.Held.{numbers}
use Rattle.forward_one_filters.specs.Windows.{filters_on}
use Rattle.forward_one_filters.proofs.Undoing.{undoing_steps, undoing_end}
use Rattle.forward_one_filters.proofs.filters.undo_squares_across.Goals as goal

pub loop-k-preserved : goal.loop-k-preserved
loop-k-preserved c =
    let a = c.undo_group.auto in
    let size = c.args.size in
    let left : min (4 * c.loop-k.k) (c.get.result.width.0 - 1) - c.min-n.result ≡ min (4 * (c.loop-k.k - 1)) (c.get.result.width.0 - 1) = omega arith in
    let first : 4 * (c.loop-k.k - 1) ≡ min (4 * c.loop-k.k) (c.get.result.width.0 - 1) - c.min-n.result = omega arith in
    rw (← left)
    (undoing_steps c.min-n.result c.loop-k.invariant (omega arith) a.dc a.low
    (c.undo_group.ensures ∙ ap (λ (i : ℕ). undo (filters_on size c.args.j i c.min-n.result) (numbers size c.loop-k.dc c.loop-k.low)) first))

pub returns : goal.returns
returns c = rw c.get.ensures.value at (undoing_end c.loop-k.invariant (omega arith))
