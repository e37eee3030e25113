-- From the last row of windows to the first, as in each row; a row of squares begins as many squares before the one below as a row has.
use native.Mathlib.Omega.{arith}
use Rattle.transform.specs.Level.{square_filters}
use Rattle.grid.proofs.Rows.{row-above}
use Rattle.forward_one_filters.proofs.Undoing.{undoing_start, undoing_step, undoing_end}
use Rattle.forward_one_filters.proofs.Edges.{bottom-row}
use Rattle.forward_one_filters.proofs.filters.undo_square_filters.Goals as goal

pub loop-j-init : goal.loop-j-init
loop-j-init c = rw c.get-known.ensures.value (undoing_start c.requires (omega arith), (bottom-row c.get-known.ensures.sized c.requires).1)

pub loop-j-preserved : goal.loop-j-preserved
loop-j-preserved c =
    let k = c.undo_squares_across.auto in
    let up = row-above c.loop-j.j c.get-known.result.width.0 (omega arith) in
    (undoing_step c.loop-j.invariant.0 (omega arith) k.dc k.low c.undo_squares_across.ensures, omega (arith, c.loop-j.invariant.1))

pub returns : goal.returns
unfolding square_filters
returns c = rw c.get-known.ensures.value at (undoing_end c.loop-j.invariant.0 (omega arith))
