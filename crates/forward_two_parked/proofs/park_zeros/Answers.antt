-- The DC number and three low-pass numbers.
use native.Mathlib.Omega.{arith}
use Rattle.lifting.proofs.Bits.{back}
use Rattle.forward_two_parked.proofs.Numbers.{zeros-parked}
use Rattle.forward_two_parked.proofs.park_zeros.Goals as goal

pub returns : goal.returns
returns c =
    let l2 = c in
    let l1 = l2 in
    let d = l1 in
    let s = d in
    let a = s.args in
    rw a.cells.of_one.0 (zeros-parked a.cells.dc a.b a.strip.now a.dc.now a.low.now _ _ _ _ s.requires.cells_in_bounds.0 (omega (arith, s.requires.cells_in_bounds)) (back d.dc-1.given) (back l1.low-1.given) (back l2.low-2-1.given) (back c.low-3-1.given))
