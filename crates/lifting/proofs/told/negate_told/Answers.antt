-- 0 - a is -a.
use mir.Syntax.{w32}
use mir.ValLaws.{to_z-of_z}
use lib.IntN.{+ℤ_idl}
use Rattle.lifting.proofs.told.negate_told.Goals as goal

pub returns : goal.returns
returns c =
    let f = c.before.ranges in
    record {
      value = simp (c.sub_told.ensures.value, to_z-of_z w32 _ f.a, +ℤ_idl);
      told = simp (c.sub_told.ensures.told, to_z-of_z w32 _ f.a, +ℤ_idl);
    }
