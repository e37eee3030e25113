-- The planes of forward are those of a try of index 0, and so their inverse is its samples.
use Rattle.tries.proofs.Tries.{zero-planes, zero-samples}
use Rattle.tries.proofs.take_zero.Goals as goal

pub returns-clause-high_after : goal.returns-clause-high_after
returns-clause-high_after c = zero-planes c.args.frame.mode c.args.frame.size c.args.samples.now c.forward_planes.ensures

pub returns-clause-second_after : goal.returns-clause-second_after
returns-clause-second_after c = zero-samples c.args.frame.mode c.args.frame.size c.args.samples.now c.forward_planes.ensures c.inverse_samples.ensures
