-- The lines of Figure 4.10 in turn, each by what its calls ensure.
use Rattle.lifting.proofs.Traces.{number, shifted, scaled, plus, taken, ◌⇒◌, at-end, ran, two_read}
use Rattle.figures.specs.Figures.{scale}
use Rattle.overlap_operators.proofs.scale_told.Goals as goal

pub returns : goal.returns
unfolding scale
returns c22 =
    let c14 = c22.before.before.before.before.before.before.before.before in
    let c11 = c14.before.before.before in
    let c9 = c11.before.before in
    let c6 = c9.before.before.before in
    let c4 = c6.before.before in
    let c3 = c4.before in
    let c1 = c3.before.before in
    let e = c1.before in
    ran e.args.tell scale _ (two_read e.ranges.a e.ranges.b)
    (plus number c1.add_told-a1.ensures
    ⇒ taken (shifted number c3.shift.type_inv c3.shift.ensures) c4.sub_told-b1.ensures
    ⇒ plus (scaled number c6.scaled_told-e1.ensures) c9.add_told-a2.ensures
    ⇒ plus (scaled number c11.scaled_told-e2.ensures) c14.add_told-b2.ensures
    ⇒ at-end)
