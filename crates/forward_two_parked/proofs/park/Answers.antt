-- Macroblock after macroblock.
use native.Mathlib.Omega.{arith}
use Rattle.forward_two_parked.proofs.Numbers.{macroblocks-parked}
use Rattle.forward_two_parked.proofs.park.Goals as goal

pub loop-b-preserved : goal.loop-b-preserved
loop-b-preserved c =
    let rest = c in
    let zeros = rest in
    let own = zeros in
    let test = own in
    let e = own.after-own.ensures in
    let l = test in
    let s = l in
    let a = s.args in
    let v = l.loop-b.invariant in
    (omega (arith, test.loop-b-test), omega arith, omega arith, omega arith, macroblocks-parked a.cells.dc l.loop-b.b l.loop-b.dc l.loop-b.low l.loop-b.high _ _ _ v.4 (rw e at zeros.park_zeros.ensures) (rw (own.after-own.result.of_one.1, e) at rest.park_rest.ensures))
