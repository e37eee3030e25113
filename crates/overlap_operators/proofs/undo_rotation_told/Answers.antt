-- The lines of Figure 4.9 from the last to the first, each by what its calls ensure.
use Rattle.lifting.specs.Program.{back}
use Rattle.lifting.proofs.Traces.{number, rounded, plus, minus, ◌⇐◌, at_start, undone, two_read}
use Rattle.figures.specs.Figures.{rotation}
use Rattle.overlap_operators.proofs.undo_rotation_told.Goals as goal

pub returns : goal.returns
unfolding back rotation
returns c13 =
    let c7 = c13.before.before.before.before.before.before in
    let c5 = c7.before.before in
    let c3 = c5.before.before in
    let c1 = c3.before.before in
    let e = c1.before in
    undone e.args.tell rotation _ (two_read e.ranges.a e.ranges.b)
    (at_start
    ⇐ minus (rounded number c1.rounded_told-e1.ensures) c3.sub_told-b1.ensures
    ⇐ plus (rounded number c5.rounded_told-e2.ensures) c7.add_told-a1.ensures)
