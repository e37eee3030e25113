-- A reduction changes what is above the range or below it.
use mir.Syntax.{w64}
use mir.ValLaws.{to_z-of_z}
use Rattle.lifting.proofs.Outside.{above, not-above}
use Rattle.lifting.proofs.told.outside.Goals as goal

pub returns-then-s-gt2147483647 : goal.returns-then-s-gt2147483647
returns-then-s-gt2147483647 c = above _ (rw (to_z-of_z w64 c.before.args.s c.before.ranges.s) at c.if-s-gt2147483647.true)

pub returns-else-s-gt2147483647 : goal.returns-else-s-gt2147483647
returns-else-s-gt2147483647 c = rw (to_z-of_z w64 c.before.args.s c.before.ranges.s) (not-above _ (rw (to_z-of_z w64 c.before.args.s c.before.ranges.s) at c.if-s-gt2147483647.false))
