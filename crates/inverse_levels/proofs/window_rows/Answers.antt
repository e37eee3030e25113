-- After k turns the grid is what k rows of windows make of it.
use mathlib.Core.Path.{◌≡◌, refl, ◌∙◌}
use native.Mathlib.Omega.{arith}
use Rattle.inverse_levels.proofs.Loops.{each_none, each_more}
use Rattle.inverse_levels.proofs.window_rows.Goals as goal

pub loop-k-preserved : goal.loop-k-preserved
loop-k-preserved c = let v = c.loop-k.invariant in (c.square_filters_across.auto.grid ∙ v.0, each_more _ _ _ _ _ v.1 c.square_filters_across.ensures)

pub returns : goal.returns
returns c = let e : c.loop-k.k ≡ c.args.n = omega arith in rw e at c.loop-k.invariant.1

pub loop-k-init : goal.loop-k-init
loop-k-init c = (refl, each_none _ _)
