-- The sum fits 64 bits, and is judged there.
use mathlib.Core.Path.{ap, ◌∙◌}
use mir.Syntax.{w64}
use mir.ValLaws.{to_z-of_z}
use Rattle.lifting.specs.Wraps.{changes}
use Rattle.lifting.proofs.Bits.{wide, cast_fits, to64, add-near}
use Rattle.lifting.proofs.told.sum_wraps.Goals as goal

pub overflow_cast-a : goal.overflow_cast-a
overflow_cast-a c = cast_fits c.args.a c.ranges.a

pub overflow_cast-b : goal.overflow_cast-b
overflow_cast-b c = cast_fits c.args.b c.ranges.b

pub overflow_add-a : goal.overflow_add-a
overflow_add-a c = rw (wide c.args.a c.ranges.a, wide c.args.b c.ranges.b) (to64 (add-near _ _ c.ranges.a c.ranges.b))

pub returns : goal.returns
returns c = c.outside.ensures ∙ ap changes (rw (wide c.before.args.a c.before.ranges.a, wide c.before.args.b c.before.ranges.b) (to_z-of_z w64 _ (to64 (add-near _ _ c.before.ranges.a c.before.ranges.b))))
