-- The lines of Figure 4.9 in turn, each by what its calls ensure.
use Rattle.lifting.proofs.Traces.{number, rounded, plus, minus, ◌⇒◌, at-end, ran, two_read}
use Rattle.figures.specs.Figures.{rotation}
use Rattle.overlap_operators.proofs.rotation_told.Goals as goal

pub returns : goal.returns
unfolding rotation
returns c13 =
    let c7 = c13.before.before.before.before.before.before in
    let c5 = c7.before.before in
    let c3 = c5.before.before in
    let c1 = c3.before.before in
    let e = c1.before in
    ran e.args.tell rotation _ (two_read e.ranges.a e.ranges.b)
    (minus (rounded number c1.rounded_told-e1.ensures) c3.sub_told-a1.ensures
    ⇒ plus (rounded number c5.rounded_told-e2.ensures) c7.add_told-b1.ensures
    ⇒ at-end)
