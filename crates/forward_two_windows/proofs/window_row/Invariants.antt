-- What the loop keeps, and its measure.
use Prim.Native.Nat.{ℕ, ◌+◌, ◌-◌, ◌*◌, ◌%◌, ◌≤◌}
use mathlib.Core.Path.{◌≡◌}
use Rattle.forward_two_edges.specs.Strip.{Holds, Kept}
use Rattle.forward_two_windows.proofs.window_row.Given as goal

abbrev pub invariant-loop-l : goal.invariant-loop-l
invariant-loop-l l =
    (l.l % 4 ≡ 0) × ((k : ℕ) → k ≤ 4 * l.l + 2 → k ≤ 4 * l.n + 2 → Holds l.here.size l.samples l.here.r l.here.c (4 * l.v + 2) (4 * l.v + 6) 2 k l.strip) × Kept (4 * l.v + 2) (4 * l.v + 6) 2 72 l.initial.strip l.strip

abbrev pub decreases-loop-l : goal.decreases-loop-l
decreases-loop-l l = l.n - l.l
