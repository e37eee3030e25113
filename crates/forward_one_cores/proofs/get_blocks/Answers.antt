-- One macroblock after another: those before the next are there.
use Prim.Native.Nat.{◌+◌}
use mathlib.Core.Path.{◌∙◌, ap}
use native.Mathlib.Omega.{arith}
use Rattle.std.proofs.Common.{rules}
use Rattle.lifting.specs.Program.{at}
use Rattle.lanes.proofs.Beside.{beside_more}
use Rattle.forward_kernel.specs.Placed.{block_in}
use Rattle.forward_kernel.proofs.Stores.{same_block}
use Rattle.forward_one_cores.proofs.Stores.{length-block}
use Rattle.forward_one_cores.proofs.get_blocks.Goals as goal

pub loop-l-preserved : goal.loop-l-preserved
unfolding block_in
loop-l-preserved c =
    beside_more _ c.loop-l.l _ _ _ (omega arith) (search rules)
    (c.coefficient_block.ensures ∙ same_block _ _ (search rules) (λ k h. ap (at c.args.low.now) (omega (arith, c.requires.room.1))))
    (length-block c.args.dc.now c.args.low.now (c.args.t + c.loop-l.l)) c.put_square.ensures c.loop-l.invariant
