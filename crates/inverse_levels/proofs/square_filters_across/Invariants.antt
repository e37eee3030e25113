-- What the loop keeps.
use Prim.Native.Nat.{◌+◌, ◌*◌, ◌-◌, min}
use mathlib.Core.Path.{◌≡◌}
use lib.ListN.{length}
use Rattle.lifting.specs.Program.{run, each}
use Rattle.transform.specs.Level.{cell, square_filter_at}
use Rattle.inverse_levels.proofs.square_filters_across.Given as goal

abbrev pub invariant-loop-k : goal.invariant-loop-k
invariant-loop-k l =
    let p = l.fn.squares.across in
    (length l.grid ≡ length l.initial.grid) × (l.grid ≡ run (each (min (4 * l.k) (p - 1)) (λ i. square_filter_at (4 * p) (cell p (4 * l.j + 2) (4 * i + 2)))) l.initial.grid)
