-- What the loop keeps.
use Prim.Native.Nat.{◌+◌}
use mathlib.Core.Path.{◌≡◌}
use lib.ListN.{length}
use Rattle.lifting.specs.Program.{run, each}
use Rattle.inverse_levels.specs.Stages.{window_row}
use Rattle.inverse_levels.proofs.window_rows.Given as goal

abbrev pub invariant-loop-k : goal.invariant-loop-k
invariant-loop-k l = (length l.grid ≡ length l.initial.grid) × (l.grid ≡ run (each l.k (λ i. window_row l.fn.squares.across (l.b + i))) l.initial.grid)
