-- A product outside ends the try; where none is, the planes are those restored, the second samples those of their inverse, and the look at all samples decides.
use Prim.Native.Nat.{ℕ, ◌*◌}
use mathlib.Core.Path.{◌∙◌, ap}
use Rattle.lifting.specs.Tests.{all}
use Rattle.picture.specs.Planes.{planes}
use Rattle.differences.specs.Near.{near}
use Rattle.tries.proofs.Tries.{Tried, out_of_range, decided}
use Rattle.tries.proofs.try_index.Goals as goal
use Rattle.tries.proofs.try_index.Goals.{After-all_near}

pub returns-then-round_planes-clause-value : goal.returns-then-round_planes-clause-value
returns-then-round_planes-clause-value c =
    out_of_range c.args.frame.mode c.args.frame.size c.args.samples.now c.args.tolerance c.args.index c.forward_planes.ensures c.round_planes.ensures.value c.if-round_planes.true

tried : (c : After-all_near)
    → Tried c.args.frame.mode c.args.frame.size c.args.samples.now c.args.tolerance c.args.index c.all_near.result (planes c.round_planes.new.dc c.round_planes.new.low c.round_planes.new.high) c.inverse_samples.new.samples
tried c =
    let left = c.if-round_planes.false in
    decided c.args.frame.mode c.args.frame.size c.args.samples.now c.args.tolerance c.args.index c.forward_planes.ensures c.round_planes.ensures.value left (c.round_planes.ensures.high_after left) c.inverse_samples.ensures
    (c.all_near.ensures ∙ ap (λ (n : ℕ). all (256 * n) (near c.args.tolerance c.args.samples.now c.inverse_samples.new.samples)) c.macroblocks.ensures.value)

pub returns-clause-value : goal.returns-clause-value
returns-clause-value c = (tried c).passes

pub returns-clause-high_after : goal.returns-clause-high_after
returns-clause-high_after c = λ e. (tried c).planes

pub returns-clause-second_after : goal.returns-clause-second_after
returns-clause-second_after c = λ e. (tried c).second
