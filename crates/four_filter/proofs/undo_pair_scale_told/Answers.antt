-- The last lines of Figure 4.13 from the last to the first, each by what its calls ensure.
use Rattle.lifting.specs.Program.{back}
use Rattle.lifting.proofs.Traces.{number, scaled, difference, plus, minus, ◌⇐◌, at_start, undone, two_read}
use Rattle.figures.specs.Pieces.{pair_scale}
use Rattle.four_filter.proofs.undo_pair_scale_told.Goals as goal

pub returns : goal.returns
unfolding back pair_scale
returns c24 =
    let c15 = c24.before.before.before.before.before.before.before.before.before in
    let c12 = c15.before.before.before in
    let c9 = c12.before.before.before in
    let c7 = c9.before.before in
    let c5 = c7.before.before in
    let c3 = c5.before.before in
    let c1 = c3.before.before in
    let e = c1.before in
    undone e.args.tell pair_scale _ (two_read e.ranges.a e.ranges.b)
    (at_start
    ⇐ minus (scaled number c1.scaled_told-e1.ensures) c3.sub_told-a1.ensures
    ⇐ minus (scaled number c5.scaled_told-e2.ensures) c7.sub_told-b1.ensures
    ⇐ plus (difference number (scaled number c9.scaled_told-e3.ensures) c12.sub_told-e4.ensures) c15.add_told-a2.ensures)
