-- After i turns the first i levels stand, and the rest are as they were.
use Rattle.lifting.specs.Program.{at}
use Rattle.transform.proofs.UpTo.{UpTo}
use Rattle.step_sizes.specs.Steps.{step_of}
use Rattle.step_sizes.specs.Levels.{quantised}
use Rattle.bands.proofs.plane.quantise_plane.Given as goal

abbrev pub invariant-loop-i : goal.invariant-loop-i
invariant-loop-i l = UpTo (λ k. quantised (step_of l.index) (at l.plane k)) l.initial.levels l.i l.levels
