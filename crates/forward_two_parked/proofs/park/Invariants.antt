-- What the loop keeps.
use Prim.Native.Nat.{◌≤◌}
use mathlib.Core.Path.{◌≡◌}
use lib.ListN.{length}
use Rattle.forward_two_cores.specs.Blocks.{block_of}
use Rattle.forward_two_parked.specs.Parked.{Parked}
use Rattle.forward_two_parked.proofs.park.Given as goal

abbrev pub invariant-loop-b : goal.invariant-loop-b
invariant-loop-b l =
    (l.b ≤ l.n) × (length l.dc ≡ length l.initial.dc) × (length l.low ≡ length l.initial.low) × (length l.high ≡ length l.initial.high) × Parked l.cells.dc l.b l.strip (block_of l.initial.dc l.initial.low l.initial.high) (block_of l.dc l.low l.high)
