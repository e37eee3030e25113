-- Macroblock after macroblock.
use Prim.Native.Nat.{◌*◌}
use native.Mathlib.Omega.{arith}
use Rattle.forward_two_cores.specs.Blocks.{block_of}
use Rattle.forward_two_edges.proofs.Strips.{kept_as, kept_then}
use Rattle.forward_two_parked.proofs.Numbers.{macroblocks_fetched}
use Rattle.forward_two_parked.proofs.fetch.Goals as goal

pub loop-b-preserved : goal.loop-b-preserved
loop-b-preserved c =
    let d = c in
    let own = d in
    let l = own in
    let s = l in
    let a = s.args in
    let v = l.loop-b.invariant in
    let e = rw own.after.ensures at d.fetch_macroblock.ensures in
    (omega arith, macroblocks_fetched (block_of a.planes.now.dc a.planes.now.low a.planes.now.high) a.cells.dc l.loop-b.b (omega (arith, s.requires.n_bound)) e.by_index e.kept v.1, kept_then v.2 (kept_as 0 2 0 (16 * a.n) (omega arith) (omega arith) (omega arith) (omega arith) e.kept))
