-- The last lines of Figure 4.13 in turn, each by what its calls ensure.
use Rattle.lifting.proofs.Traces.{number, scaled, difference, plus, minus, ◌⇒◌, at-end, ran, two_read}
use Rattle.figures.specs.Pieces.{pair_scale}
use Rattle.four_filter.proofs.pair_scale_told.Goals as goal

pub returns : goal.returns
unfolding pair_scale
returns c23 =
    let c14 = c23.before.before.before.before.before.before.before.before.before in
    let c11 = c14.before.before.before in
    let c9 = c11.before.before in
    let c7 = c9.before.before in
    let c5 = c7.before.before in
    let c3 = c5.before.before in
    let c1 = c3.before.before in
    let e = c1.before in
    ran e.args.tell pair_scale _ (two_read e.ranges.a e.ranges.b)
    (minus (difference number (scaled number c1.scaled_told-e1.ensures) c3.sub_told-e2.ensures) c5.sub_told-a1.ensures
    ⇒ plus (scaled number c7.scaled_told-e3.ensures) c9.add_told-b1.ensures
    ⇒ plus (scaled number c11.scaled_told-e4.ensures) c14.add_told-a2.ensures
    ⇒ at-end)
