-- What the loop keeps: l blocks have been moved, their coefficients 0 and their coefficients 1 to 15.
use Prim.Native.Nat.{◌*◌, ◌≤◌}
use Rattle.lifting.specs.Program.{at}
use Rattle.forward_kernel.specs.Placed.{Placed}
use Rattle.forward_one_cores.proofs.move_blocks.Given as goal

abbrev pub invariant-loop-l : goal.invariant-loop-l
invariant-loop-l l = (l.l ≤ l.n) × Placed l.t l.l (at l.zeros) l.initial.dc l.dc × Placed l.to (15 * l.l) (at l.rest) l.initial.low l.low
