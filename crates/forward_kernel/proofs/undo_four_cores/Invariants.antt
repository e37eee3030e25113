-- What the loop keeps.
use Prim.Native.Nat.{ℕ, ◌<◌}
use mathlib.Core.Path.{◌≡◌}
use lib.ListN.{length}
use Rattle.lanes.specs.Lanes.{lane_of}
use Rattle.forward_kernel.specs.Placed.{Undone}
use Rattle.forward_kernel.proofs.undo_four_cores.Given as goal

abbrev pub invariant-loop-l : goal.invariant-loop-l
invariant-loop-l l = (length l.zeros ≡ 4) × (length l.out ≡ 64) × ((j : ℕ) → j < l.l → Undone j (lane_of l.a l.b l.c l.d j) l.zeros l.out)
