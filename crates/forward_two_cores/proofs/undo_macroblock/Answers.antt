-- Row of blocks after row of blocks: those above the next are undone. It begins four rows of numbers after the one before, and its high-pass numbers sixty after.
use Prim.Native.Nat.{◌+◌}
use native.Mathlib.Omega.{arith}
use Rattle.forward_two_cores.proofs.Stores.{replaced_as, rows_more, blocks_replaced, side_by_side}
use Rattle.forward_two_cores.proofs.undo_macroblock.Goals as goal

pub loop-k-preserved : goal.loop-k-preserved
loop-k-preserved c =
    let a = c.args in
    let v = c.loop-k.invariant in
    let m = a.cells.dc in
    let k = c.loop-k.k in
    let e = c.undo_four_cores-z.ensures in
    let place = c.loop-k.row in
    let row = blocks_replaced a.w place a.grid.now m k c.undo_four_cores-z.result c.loop-k.dc c.loop-k.low _ _ (omega arith) (omega (arith, v.6, a.cells.of_one)) e.by_index e.placed c.put_zeros.ensures in (
      omega arith,
      omega (arith, v.1),
      omega (arith, v.2),
      omega (arith, v.3),
      rows_more 0 k (k + 1) m (m + 1) (omega arith) (omega arith) v.4 (replaced_as (side_by_side a.w place a.grid.now m k a.at v.5) row),
      omega (arith, v.5),
      omega (arith, v.6),
    )
