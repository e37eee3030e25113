-- The lines of Figure 4.11 from the last to the first, each by what its calls ensure.
use mathlib.Core.Path.{ap}
use Rattle.lifting.specs.Program.{back}
use Rattle.lifting.proofs.Traces.{number, shifted, scaled, difference, plus, minus, taken, swapped, ◌⇐◌, at_start, undone}
use Rattle.figures.specs.Figures.{post_hadamard}
use Rattle.figures.specs.Block.{list}
use Rattle.figures.proofs.Parts.{told}
use Rattle.overlap_operators.proofs.undo_post_hadamard_told.Goals as goal

pub returns : goal.returns
unfolding back post_hadamard
returns c35 =
    let c23 = c35.before.before.before.before.before.before.before.before.before.before.before.before in
    let c20 = c23.before.before.before in
    let c17 = c20.before.before.before in
    let c15 = c17.before.before in
    let c14 = c15.before in
    let c12 = c14.before.before in
    let c11 = c12.before in
    let c9 = c11.before.before in
    let c6 = c9.before.before.before in
    let c5 = c6.before in
    let t4 = c5.before in
    let e = t4.before.before.before.before in
    let v = ap list (told e.args.v t4.struct_told-4-1.given) in
    undone e.args.tell post_hadamard _ v
    (at_start
    ⇐ minus number c5.sub_told-b1.ensures
    ⇐ plus number c6.add_told-a1.ensures
    ⇐ swapped
    ⇐ taken (shifted (difference number number c9.sub_told-e1.ensures) c11.shift.type_inv c11.shift.ensures) c12.sub_told-c1.ensures
    ⇐ plus (shifted number c14.shift-2.type_inv c14.shift-2.ensures) c15.add_told-d1.ensures
    ⇐ minus (scaled number c17.scaled_told-e2.ensures) c20.sub_told-a2.ensures
    ⇐ plus number c23.add_told-b2.ensures)
