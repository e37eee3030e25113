-- The first lines of Figure 4.13 from the last to the first, each by what its calls ensure; the rotation among them by what it tells.
use Rattle.lifting.specs.Program.{back, get, put}
use Rattle.lifting.proofs.Traces.{number, rounded, plus, minus, ◌⇐◌, ◌◂◌, at_start, undone, four_read}
use Rattle.figures.specs.Pieces.{four_rotation}
use Rattle.figures.proofs.Parts.{pair}
use Rattle.four_filter.proofs.undo_four_rotation_told.Goals as goal

pub returns : goal.returns
unfolding back get put four_rotation
returns c37 =
    let c22 = c37.before.before.before.before.before.before.before.before.before.before.before.before.before.before.before in
    let c20 = c22.before.before in
    let c18 = c20.before.before in
    let c15 = c18.before.before.before in
    let c14 = c15.before in
    let c12 = c14.before.before in
    let c11 = c12.before in
    let c9 = c11.before.before in
    let c6 = c9.before.before.before in
    let c4 = c6.before.before in
    let c3 = c4.before in
    let c1 = c3.before.before in
    let e = c1.before in
    let f = e.ranges in
    undone e.args.tell four_rotation _ (four_read f.a f.b f.c f.d)
    (at_start
    ⇐ minus (rounded number c1.rounded_told-e1.ensures) c3.sub_told-c1.ensures
    ⇐ minus (rounded number c4.rounded_told-e2.ensures) c6.sub_told-d1.ensures
    ◂ record { done = pair c12.struct_told-5-1.given c9.undo_rotation_told-turned.ensures.done; told = c9.undo_rotation_told-turned.ensures.told }
    ⇐ plus (rounded number c11.rounded_told-e3.ensures) c14.add_told-c2.ensures
    ⇐ plus (rounded number c15.rounded_told-e4.ensures) c18.add_told-d2.ensures
    ⇐ minus number c20.sub_told-b1.ensures
    ⇐ minus number c22.sub_told-a1.ensures)
