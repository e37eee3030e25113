-- What the loop keeps.
use Prim.Native.Nat.{◌*◌}
use mathlib.Core.Path.{◌≡◌}
use lib.ListN.{length}
use Rattle.lifting.specs.Program.{run, each}
use Rattle.transform.specs.Level.{cell, core_at}
use Rattle.inverse_one.proofs.cores.cores_across.Given as goal

abbrev pub invariant-loop-i : goal.invariant-loop-i
invariant-loop-i l =
    let p = l.fn.squares.across in
    (length l.grid ≡ length l.initial.grid) × (l.grid ≡ run (each l.i (λ k. core_at (4 * p) (cell p (4 * l.j) (4 * k)))) l.initial.grid)
