-- The lines of Figure 4.10 from the last to the first, each by what its calls ensure.
use Rattle.lifting.specs.Program.{back}
use Rattle.lifting.proofs.Traces.{number, shifted, scaled, minus, taken, ◌⇐◌, at_start, undone, two_read}
use Rattle.figures.specs.Figures.{scale}
use Rattle.overlap_operators.proofs.undo_scale_told.Goals as goal

pub returns : goal.returns
unfolding back scale
returns c22 =
    let c14 = c22.before.before.before.before.before.before.before.before in
    let c11 = c14.before.before.before in
    let c9 = c11.before.before in
    let c7 = c9.before.before in
    let c5 = c7.before.before in
    let c3 = c5.before.before in
    let c1 = c3.before.before in
    let e = c1.before in
    undone e.args.tell scale _ (two_read e.ranges.a e.ranges.b)
    (at_start
    ⇐ minus (scaled number c1.scaled_told-e1.ensures) c3.sub_told-b1.ensures
    ⇐ minus (scaled number c5.scaled_told-e2.ensures) c7.sub_told-a1.ensures
    ⇐ taken (shifted number c9.shift.type_inv c9.shift.ensures) c11.sub_told-b2.ensures
    ⇐ minus number c14.sub_told-a2.ensures)
