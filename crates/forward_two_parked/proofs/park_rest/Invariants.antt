-- What the loop keeps.
use Prim.Native.Nat.{◌≤◌}
use Rattle.forward_two_parked.specs.Parked.{RestParked}
use Rattle.forward_two_parked.proofs.park_rest.Given as goal

abbrev pub invariant-loop-k : goal.invariant-loop-k
invariant-loop-k l = (l.k ≤ 4) × RestParked l.from l.b l.k l.strip l.initial.high l.high
