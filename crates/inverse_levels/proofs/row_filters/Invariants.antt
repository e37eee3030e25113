-- What the loop keeps.
use Prim.Native.Nat.{◌+◌, ◌*◌}
use mathlib.Core.Path.{◌≡◌}
use lib.ListN.{length}
use Rattle.lifting.specs.Program.{run, each}
use Rattle.transform.specs.Level.{cell, four_filter_at}
use Rattle.inverse_levels.proofs.row_filters.Given as goal

abbrev pub invariant-loop-i : goal.invariant-loop-i
invariant-loop-i l = (length l.grid ≡ length l.initial.grid) × (l.grid ≡ run (each l.i (λ k. four_filter_at 1 (cell l.fn.squares.across l.r (4 * k + 2)))) l.initial.grid)
