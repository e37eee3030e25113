-- The result, and what was asked of it.
use mir.Syntax.{w32}
use mir.ValLaws.{to_z-of_z}
use Rattle.lifting.proofs.Bits.{again}
use Rattle.lifting.proofs.told.sub_told.Goals as goal

pub returns-then-tell : goal.returns-then-tell
returns-then-tell c2 =
    let c1 = c2.before.before in
    let f = c1.before.ranges in
    record {
      value = simp (c1.sub-value.ensures, again, to_z-of_z w32 _ f.a, to_z-of_z w32 _ f.b);
      told = simp (c2.difference_wraps-wrapped.ensures, c2.before.if-tell.true, to_z-of_z w32 _ f.a, to_z-of_z w32 _ f.b);
    }

pub returns-else-tell : goal.returns-else-tell
returns-else-tell c2 =
    let c1 = c2.before in
    let f = c1.before.ranges in
    record { value = simp (c1.sub-value.ensures, again, to_z-of_z w32 _ f.a, to_z-of_z w32 _ f.b); told = rw c2.if-tell.false }
