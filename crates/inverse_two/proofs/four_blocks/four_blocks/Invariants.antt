-- What the loop keeps.
use mathlib.Core.Path.{◌≡◌}
use lib.ListN.{length}
use Rattle.lifting.specs.Program.{run}
use Rattle.figures.specs.Figures.{core}
use Rattle.lanes.proofs.Beside.{Beside}
use Rattle.inverse_two.specs.Blocks.{block_in_lane}
use Rattle.inverse_two.proofs.four_blocks.four_blocks.Given as goal

abbrev pub invariant-loop-l : goal.invariant-loop-l
invariant-loop-l l = (length l.out ≡ 64) × Beside (λ n. run core (block_in_lane l.zeros l.first l.second l.third l.fourth n)) l.l l.out
