-- What the loop keeps.
use Prim.Native.Nat.{◌+◌}
use Rattle.lifting.specs.Program.{get}
use Rattle.lanes.proofs.Beside.{Beside}
use Rattle.forward_one_grid.specs.Held.{window}
use Rattle.forward_one_filters.proofs.windows.get_windows.Given as goal

abbrev pub invariant-loop-l : goal.invariant-loop-l
invariant-loop-l l = Beside (λ m. get (window l.level.size l.w.j (l.w.i + m)) l.level.numbers) l.l l.held
