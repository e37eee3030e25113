-- After j turns the grid is what j lines of uses make of it.
use mathlib.Core.Path.{◌≡◌, refl, ◌∙◌}
use native.Mathlib.Omega.{arith}
use Rattle.transform.specs.Level.{cores}
use Rattle.inverse_levels.proofs.Loops.{each_none, each_more}
use Rattle.inverse_one.proofs.cores.cores.Goals as goal

pub loop-j-init : goal.loop-j-init
loop-j-init c = (refl, each_none _ _)

pub loop-j-preserved : goal.loop-j-preserved
loop-j-preserved c = let v = c.loop-j.invariant in (c.cores_across.auto.grid ∙ v.0, each_more _ _ _ _ _ v.1 c.cores_across.ensures)

pub returns : goal.returns
unfolding cores
returns c = let e : c.loop-j.j ≡ c.args.squares.down = omega arith in rw e at c.loop-j.invariant.1
