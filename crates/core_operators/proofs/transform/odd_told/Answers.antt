-- The lines of Figure 4.5 in turn, each by what its calls ensure.
use mathlib.Core.Path.{ap}
use Rattle.lifting.proofs.Traces.{number, shifted, rounded, scaled, plus, minus, taken, ◌⇒◌, at-end, ran}
use Rattle.figures.specs.Figures.{odd}
use Rattle.figures.specs.Block.{list}
use Rattle.figures.proofs.Parts.{told}
use Rattle.core_operators.proofs.transform.odd_told.Goals as goal

pub returns : goal.returns
unfolding odd
returns c72 =
    let c49 = c72.before.before.before.before.before.before.before.before.before.before.before.before.before.before.before.before.before.before.before.before.before.before.before in
    let c46 = c49.before.before.before in
    let c43 = c46.before.before.before in
    let c40 = c43.before.before.before in
    let c38 = c40.before.before in
    let c35 = c38.before.before.before in
    let c33 = c35.before.before in
    let c30 = c33.before.before.before in
    let c28 = c30.before.before in
    let c25 = c28.before.before.before in
    let c23 = c25.before.before in
    let c20 = c23.before.before.before in
    let c18 = c20.before.before in
    let c15 = c18.before.before.before in
    let c13 = c15.before.before in
    let c11 = c13.before.before in
    let c9 = c11.before.before in
    let c8 = c9.before in
    let c6 = c8.before.before in
    let c5 = c6.before in
    let t4 = c5.before in
    let e = t4.before.before.before.before in
    let v = ap list (told e.args.v t4.struct_told-4-1.given) in
    ran e.args.tell odd _ v
    (plus number c5.add_told-b1.ensures
    ⇒ minus number c6.sub_told-a1.ensures
    ⇒ minus (shifted number c8.shift.type_inv c8.shift.ensures) c9.sub_told-d1.ensures
    ⇒ plus (rounded number c11.rounded_told-e1.ensures) c13.add_told-c1.ensures
    ⇒ minus (scaled number c15.scaled_told-e2.ensures) c18.sub_told-a2.ensures
    ⇒ plus (scaled number c20.scaled_told-e3.ensures) c23.add_told-b2.ensures
    ⇒ minus (scaled number c25.scaled_told-e4.ensures) c28.sub_told-c2.ensures
    ⇒ plus (scaled number c30.scaled_told-e5.ensures) c33.add_told-d2.ensures
    ⇒ minus (rounded number c35.rounded_told-e6.ensures) c38.sub_told-c3.ensures
    ⇒ taken (rounded number c40.rounded_told-e7.ensures) c43.sub_told-d3.ensures
    ⇒ plus number c46.add_told-b3.ensures
    ⇒ minus number c49.sub_told-a3.ensures
    ⇒ at-end)
