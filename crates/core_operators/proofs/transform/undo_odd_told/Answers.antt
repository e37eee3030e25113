-- The lines of Figure 4.5 from the last to the first, each by what its calls ensure.
use mathlib.Core.Path.{ap}
use Rattle.lifting.specs.Program.{back}
use Rattle.lifting.proofs.Traces.{number, shifted, rounded, scaled, plus, minus, taken, ◌⇐◌, at_start, undone}
use Rattle.figures.specs.Figures.{odd}
use Rattle.figures.specs.Block.{list}
use Rattle.figures.proofs.Parts.{told}
use Rattle.core_operators.proofs.transform.undo_odd_told.Goals as goal

pub returns : goal.returns
unfolding back odd
returns c72 =
    let c49 = c72.before.before.before.before.before.before.before.before.before.before.before.before.before.before.before.before.before.before.before.before.before.before.before in
    let c46 = c49.before.before.before in
    let c43 = c46.before.before.before in
    let c41 = c43.before.before in
    let c39 = c41.before.before in
    let c36 = c39.before.before.before in
    let c34 = c36.before.before in
    let c31 = c34.before.before.before in
    let c29 = c31.before.before in
    let c26 = c29.before.before.before in
    let c24 = c26.before.before in
    let c21 = c24.before.before.before in
    let c19 = c21.before.before in
    let c16 = c19.before.before.before in
    let c14 = c16.before.before in
    let c12 = c14.before.before in
    let c10 = c12.before.before in
    let c8 = c10.before.before in
    let c6 = c8.before.before in
    let c5 = c6.before in
    let t4 = c5.before in
    let e = t4.before.before.before.before in
    let v = ap list (told e.args.v t4.struct_told-4-1.given) in
    undone e.args.tell odd _ v
    (at_start
    ⇐ plus number c5.add_told-a1.ensures
    ⇐ minus number c6.sub_told-b1.ensures
    ⇐ taken (rounded number c8.rounded_told-e1.ensures) c10.sub_told-d1.ensures
    ⇐ plus (rounded number c12.rounded_told-e2.ensures) c14.add_told-c1.ensures
    ⇐ minus (scaled number c16.scaled_told-e3.ensures) c19.sub_told-d2.ensures
    ⇐ plus (scaled number c21.scaled_told-e4.ensures) c24.add_told-c2.ensures
    ⇐ minus (scaled number c26.scaled_told-e5.ensures) c29.sub_told-b2.ensures
    ⇐ plus (scaled number c31.scaled_told-e6.ensures) c34.add_told-a2.ensures
    ⇐ minus (rounded number c36.rounded_told-e7.ensures) c39.sub_told-c3.ensures
    ⇐ plus (shifted number c41.shift.type_inv c41.shift.ensures) c43.add_told-d3.ensures
    ⇐ plus number c46.add_told-a3.ensures
    ⇐ minus number c49.sub_told-b3.ensures)
