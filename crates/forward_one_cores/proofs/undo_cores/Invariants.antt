-- What the loop keeps, and its measure.
use Prim.Native.Nat.{◌+◌, ◌-◌, ◌*◌, min}
use mathlib.Core.Path.{◌≡◌}
use lib.ListN.{length}
use Rattle.lifting.specs.Program.{undo}
use Rattle.figures.specs.Figures.{core}
use Rattle.forward_kernel.specs.Placed.{block_in}
use Rattle.forward_one_cores.specs.Blocks.{Replaced}
use Rattle.forward_one_cores.proofs.undo_cores.Given as goal

abbrev pub invariant-loop-t : goal.invariant-loop-t
invariant-loop-t l =
    (length l.dc ≡ length l.initial.dc) × (length l.low ≡ length l.initial.low)
    × Replaced 0 (min l.t l.all) (λ s. undo core (block_in l.initial.dc l.initial.low s)) (block_in l.initial.dc l.initial.low) (block_in l.dc l.low) × (l.from ≡ 15 * l.t)

abbrev pub decreases-loop-t : goal.decreases-loop-t
decreases-loop-t l = l.all + 4 - l.t
