-- After i turns it is known whether one of the first i products is outside.
use Prim.Native.Nat.{◌≤◌}
use mathlib.Core.Path.{◌≡◌}
use mathlib.Core.List.{map}
use lib.ListN.{length, take}
use Rattle.step_sizes.specs.Steps.{step_of}
use Rattle.step_sizes.specs.Levels.{restored}
use Rattle.bands.specs.Bands.{any_out}
use Rattle.bands.proofs.plane.any_leaves_range.Given as goal

abbrev pub invariant-loop-level : goal.invariant-loop-level
invariant-loop-level l = (l.level-index ≤ length l.levels) × (l.out ≡ any_out (map (restored (step_of l.index)) (take l.level-index l.levels)))
