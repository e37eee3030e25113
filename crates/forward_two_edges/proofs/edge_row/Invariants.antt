-- What the loop keeps.
use Prim.Native.Nat.{◌+◌, ◌*◌, ◌≤◌}
use Rattle.forward_two_edges.specs.Strip.{Spread}
use Rattle.forward_two_edges.proofs.Strips.{fours_from}
use Rattle.forward_two_edges.proofs.edge_row.Given as goal

abbrev pub invariant-loop-l : goal.invariant-loop-l
invariant-loop-l l = (l.l ≤ l.n) × Spread (l.at.strip + 2) 1 (4 * l.l) (fours_from l.samples 1 (l.at.samples + 2)) l.initial.strip l.strip
