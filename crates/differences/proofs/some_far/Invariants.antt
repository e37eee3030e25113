-- It is known whether one of the pairs so far is far.
use mathlib.Core.Path.{◌≡◌}
use mathlib.Core.Bool.{not}
use lib.ListN.{length}
use Rattle.lifting.specs.Tests.{all}
use Rattle.differences.specs.Near.{near}
use Rattle.differences.proofs.some_far.Given as goal

abbrev pub invariant-loop-x : goal.invariant-loop-x
invariant-loop-x l = l.far ≡ not (all (length l.yielded) (near l.tolerance l.a l.b))
