-- What the loop keeps.
use Prim.Native.Nat.{ℕ, ◌+◌, ◌*◌, ◌≤◌, ◌<◌}
use mathlib.Core.Path.{◌≡◌}
use Rattle.lifting.specs.Program.{at}
use Rattle.forward_two_cores.specs.Blocks.{block_of}
use Rattle.forward_two_edges.specs.Strip.{Kept}
use Rattle.forward_two_parked.specs.Parked.{place_in}
use Rattle.forward_two_parked.proofs.fetch_macroblock.Given as goal

abbrev pub invariant-loop-k : goal.invariant-loop-k
invariant-loop-k l =
    (l.k ≤ 4) × ((i j : ℕ) → i < l.k → j < 8 → at l.strip (place_in 0 l.b i j) ≡ at (block_of l.planes.dc l.planes.low l.planes.high (16 * l.cells.dc + i)) j) × Kept 0 2 (16 * l.b) (16 * l.b + 16) l.initial.strip l.strip
