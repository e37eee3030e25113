-- Three stores and a four.
use Prim.Native.Nat.{◌+◌}
use Rattle.lifting.proofs.Bits.{back}
use Rattle.forward_kernel.proofs.Stores.{four-at}
use Rattle.forward_two_parked.proofs.Numbers.{block-parked}
use Rattle.forward_two_parked.proofs.park_block.Goals as goal

pub returns : goal.returns
returns c =
    let put = c in
    let read = put in
    let h3 = read in
    let h2 = h3 in
    let h1 = h2 in
    let s = h1 in
    let a = s.args in
    block-parked a.from a.x a.strip.now a.high.now read.get_four.result _ _ _ s.requires.0 (back h1.high-1.given) (back h2.high-2-1.given) (back h3.high-3-1.given)
    (four-at (1224 + a.x) read.get_four.result a.strip.now read.get_four.ensures) put.put_four.ensures
