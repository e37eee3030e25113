-- The sum of the bits.
use Rattle.lifting.proofs.WrapLaws.{added}
use Rattle.lifting.proofs.add.Goals as goal

pub returns : goal.returns
returns c = added c.ranges.a c.ranges.b
