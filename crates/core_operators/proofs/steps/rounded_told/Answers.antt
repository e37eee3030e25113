-- The sum and the shift in turn.
use mir.Syntax.{w32}
use mir.ValLaws.{to_z-of_z}
use Rattle.lifting.proofs.Bits.{again, again_shr}
use Rattle.core_operators.proofs.steps.rounded_told.Goals as goal

pub returns : goal.returns
returns c3 =
    let c1 = c3.before.before in
    let f = c1.before.ranges in record {
      value = simp (c3.shift.ensures, c1.add_told-sum.ensures.value, again, again_shr, to_z-of_z w32 _ f.y, to_z-of_z w32 _ f.k);
      told = simp (c1.add_told-sum.ensures.told, to_z-of_z w32 _ f.y, to_z-of_z w32 _ f.k);
    }
