-- Two reduced sums have the remainder of 3 a, and it wraps where one of them does.
use mathlib.Core.Bool.{◌&&◌, and-or_distrib_left}
use mathlib.Core.Path.{◌∙◌, ap, sym}
use mir.Syntax.{w32}
use mir.ValLaws.{to_z-of_z}
use Rattle.lifting.proofs.Bits.{again}
use Rattle.lifting.proofs.WrapLaws.{three}
use Rattle.lifting.proofs.Outside.{thrice_changes}
use Rattle.lifting.proofs.told.thrice_told.Goals as goal

pub returns : goal.returns
returns c6 =
    let c3 = c6.before.before.before in
    let c1 = c3.before.before in
    let f = c1.before.ranges in
    let t = c1.before.args.tell in record {
      value = simp (c3.add_told-all.ensures.value, c1.add_told-twice.ensures.value, again, to_z-of_z w32 _ f.a) (three c1.before.args.a);
      told = simp (c3.add_told-all.ensures.told, c1.add_told-twice.ensures.value, c1.add_told-twice.ensures.told, again, to_z-of_z w32 _ f.a) (sym (and-or_distrib_left t _ _) ∙ ap (λ z. t && z) (thrice_changes c1.before.args.a));
    }
