-- The lines of Figure 4.11 in turn, each by what its calls ensure.
use mathlib.Core.Path.{ap}
use Rattle.lifting.proofs.Traces.{number, shifted, scaled, difference, plus, minus, taken, swapped, ◌⇒◌, at-end, ran}
use Rattle.figures.specs.Figures.{post_hadamard}
use Rattle.figures.specs.Block.{list}
use Rattle.figures.proofs.Parts.{told}
use Rattle.overlap_operators.proofs.post_hadamard_told.Goals as goal

pub returns : goal.returns
unfolding post_hadamard
returns c35 =
    let c23 = c35.before.before.before.before.before.before.before.before.before.before.before.before in
    let c20 = c23.before.before.before in
    let c17 = c20.before.before.before in
    let c16 = c17.before in
    let c14 = c16.before.before in
    let c11 = c14.before.before.before in
    let c10 = c11.before in
    let c8 = c10.before.before in
    let c6 = c8.before.before in
    let c5 = c6.before in
    let t4 = c5.before in
    let e = t4.before.before.before.before in
    let v = ap list (told e.args.v t4.struct_told-4-1.given) in
    ran e.args.tell post_hadamard _ v
    (minus number c5.sub_told-b1.ensures
    ⇒ plus (scaled number c6.scaled_told-e1.ensures) c8.add_told-a1.ensures
    ⇒ minus (shifted number c10.shift.type_inv c10.shift.ensures) c11.sub_told-c1.ensures
    ⇒ taken (shifted (difference number number c14.sub_told-e2.ensures) c16.shift-2.type_inv c16.shift-2.ensures) c17.sub_told-d1.ensures
    ⇒ swapped
    ⇒ minus number c20.sub_told-a2.ensures
    ⇒ plus number c23.add_told-b2.ensures
    ⇒ at-end)
