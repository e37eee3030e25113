-- What the loop keeps.
use Prim.Native.Nat.{◌*◌}
use mathlib.Core.Path.{◌≡◌}
use lib.ListN.{length}
use Rattle.lifting.specs.Program.{run, each}
use Rattle.transform.specs.Level.{cell, core_at}
use Rattle.inverse_one.proofs.cores.cores.Given as goal

abbrev pub invariant-loop-j : goal.invariant-loop-j
invariant-loop-j l =
    let p = l.fn.squares.across in
    (length l.grid ≡ length l.initial.grid) × (l.grid ≡ run (each l.j (λ k. each p (λ i. core_at (4 * p) (cell p (4 * k) (4 * i))))) l.initial.grid)
