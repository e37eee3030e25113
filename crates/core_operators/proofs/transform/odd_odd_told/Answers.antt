-- The shared lines with the roundings of Figure 4.6, and then its two negations.
use mathlib.Core.Path.{refl}
use Rattle.lifting.specs.Program.{◌then◌}
use Rattle.lifting.proofs.Traces.{called, and_then, negated, ◌⇒◌, at-end, ran}
use Rattle.figures.specs.Figures.{odd_odd}
use Rattle.figures.specs.Pieces.{odd_odd_rounded}
use Rattle.figures.proofs.Parts.{four}
use Rattle.core_operators.proofs.transform.odd_odd_told.Goals as goal

pub returns : goal.returns
unfolding ◌then◌ odd_odd_rounded odd_odd
returns c12 =
    let c6 = c12.before.before.before.before.before.before in
    let c4 = c6.before.before in
    let c3 = c4.before in
    let c1 = c3.before.before in
    let o = c1.odd_odd_rounded_told-o.ensures in
    ran c1.before.args.tell odd_odd _ refl
    (and_then (called record { done = four c3.struct_told-1.given o.done; told = o.told }) (negated c4.negate_told-b.ensures ⇒ negated c6.negate_told-c.ensures ⇒ at-end))
