-- Three times the number, and then as `rounded_told` says.
use mathlib.Core.Path.{sym}
use mathlib.Core.Bool.{and-or_distrib_left}
use mir.Syntax.{w32}
use mir.ValLaws.{to_z-of_z}
use Rattle.lifting.proofs.Bits.{again, again_shr}
use Rattle.core_operators.proofs.steps.scaled_told.Goals as goal

pub returns : goal.returns
returns c6 =
    let c3 = c6.before.before.before in
    let c1 = c3.before.before in
    let f = c1.before.ranges in record {
      value = simp (c3.rounded_told-sum.ensures.value, c1.thrice_told-three.ensures.value, again, again_shr, to_z-of_z w32 _ f.y, to_z-of_z w32 _ f.k);
      told = simp (c3.rounded_told-sum.ensures.told, c1.thrice_told-three.ensures.value, c1.thrice_told-three.ensures.told, again, to_z-of_z w32 _ f.y, to_z-of_z w32 _ f.k) (sym (and-or_distrib_left c1.before.args.tell _ _));
    }
