-- After i turns the first i coefficients stand, and the rest are as they were.
use Rattle.lifting.specs.Program.{at}
use Rattle.transform.proofs.UpTo.{UpTo}
use Rattle.step_sizes.specs.Steps.{step_of}
use Rattle.step_sizes.specs.Levels.{restored}
use Rattle.bands.proofs.plane.restore_plane.Given as goal

abbrev pub invariant-loop-i : goal.invariant-loop-i
invariant-loop-i l = UpTo (λ k. restored (step_of l.index) (at l.levels k)) l.initial.plane l.i l.plane
