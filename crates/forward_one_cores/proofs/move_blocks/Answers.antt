-- Block after block: its coefficient 0, and its coefficients 1 to 15.
use Prim.Native.Nat.{◌+◌, ◌*◌}
use mathlib.Core.Path.{refl}
use native.Mathlib.Omega.{arith}
use Rattle.std.proofs.lemmas.List.{places}
use Rattle.lifting.specs.Program.{at}
use Rattle.lifting.proofs.Bits.{back}
use Rattle.forward_kernel.proofs.Stores.{placed_none, placed_next, placed_up_to, placed_after}
use Rattle.forward_one_cores.proofs.Stores.{part_placed, blocks_moved}
use Rattle.forward_one_cores.proofs.move_blocks.Goals as goal

pub loop-l-init : goal.loop-l-init
loop-l-init c = (omega arith, placed_none _ _ _, placed_none _ _ _)

pub loop-l-preserved : goal.loop-l-preserved
loop-l-preserved c =
    let a = c.args in
    let l = c.loop-l.l in
    let v = c.loop-l.invariant in
    let rest = at a.rest.now in
    let e = c.copy_from_slice.ensures in (
      omega arith,
      placed_next a.t l (at a.zeros.now) (a.t + l) refl (omega (arith, c.requires.room)) (back {x = at a.zeros.now l} (omega arith)) v.1,
      placed_after a.to (15 * l) (15 * l) 15 (15 * (l + 1)) rest (λ j. rest (15 * l + j)) rest (omega arith) (omega arith) (omega arith) (λ k h. refl) (λ k h. refl) v.2
          (part_placed c.loop-l.low _ (a.to + 15 * l) 15 _ _ (omega (arith, c.requires.room, v.2.len)) (omega arith) (rw e.after (grind (arith, places, c.told-rest, c.requires.n_bound))) (λ j h. rw e.after (grind (arith, places)))),
    )

pub returns : goal.returns
returns c =
    let a = c.args in
    let l = c.loop-l in
    blocks_moved a.zeros.now a.rest.now a.t a.n (placed_up_to l.l a.n (omega arith) l.invariant.1) (rw (← c.requires.room.1) (placed_up_to (15 * l.l) (15 * a.n) (omega arith) l.invariant.2))
