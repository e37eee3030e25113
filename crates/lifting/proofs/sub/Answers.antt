-- The difference of the bits.
use Rattle.lifting.proofs.WrapLaws.{subtracted}
use Rattle.lifting.proofs.sub.Goals as goal

pub returns : goal.returns
returns c = subtracted c.ranges.a c.ranges.b
