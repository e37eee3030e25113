-- What the loop keeps.
use Prim.Native.Nat.{◌*◌, ◌≤◌}
use Rattle.forward_two_cores.specs.Blocks.{block_of}
use Rattle.forward_two_edges.specs.Strip.{Kept}
use Rattle.forward_two_parked.specs.Parked.{Fetched}
use Rattle.forward_two_parked.proofs.fetch.Given as goal

abbrev pub invariant-loop-b : goal.invariant-loop-b
invariant-loop-b l = (l.b ≤ l.n) × Fetched l.cells.dc l.b (block_of l.planes.dc l.planes.low l.planes.high) l.strip × Kept 0 2 0 (16 * l.n) l.initial.strip l.strip
