-- What the loop keeps.
use Prim.Native.Nat.{◌*◌, ◌≤◌}
use mathlib.Core.Path.{◌≡◌}
use Rattle.forward_two_edges.specs.Strip.{Kept}
use Rattle.forward_two.proofs.Joined.{CarriedUpTo}
use Rattle.forward_two.proofs.carry.Given as goal

abbrev pub invariant-loop-y : goal.invariant-loop-y
invariant-loop-y l = (l.y ≤ 18) × CarriedUpTo l.y l.initial.strip l.strip × Kept 0 18 0 2 l.initial.strip l.strip × (l.row ≡ 72 * l.y)
