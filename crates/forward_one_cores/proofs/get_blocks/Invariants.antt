-- What the loop keeps.
use Prim.Native.Nat.{◌+◌}
use Rattle.lanes.proofs.Beside.{Beside}
use Rattle.forward_kernel.specs.Placed.{block_in}
use Rattle.forward_one_cores.proofs.get_blocks.Given as goal

abbrev pub invariant-loop-l : goal.invariant-loop-l
invariant-loop-l l = Beside (λ m. block_in l.dc l.low (l.t + m)) l.l l.held
