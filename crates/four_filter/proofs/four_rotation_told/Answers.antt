-- The first lines of Figure 4.13 in turn, each by what its calls ensure; the rotation among them by what it tells.
use Rattle.lifting.specs.Program.{get, put}
use Rattle.lifting.proofs.Traces.{number, rounded, plus, minus, ◌⇒◌, ◌▸◌, at-end, ran, four_read}
use Rattle.figures.specs.Pieces.{four_rotation}
use Rattle.figures.proofs.Parts.{pair}
use Rattle.four_filter.proofs.four_rotation_told.Goals as goal

pub returns : goal.returns
unfolding get put four_rotation
returns c39 =
    let c24 = c39.before.before.before.before.before.before.before.before.before.before.before.before.before.before.before in
    let c21 = c24.before.before.before in
    let c19 = c21.before.before in
    let c17 = c19.before.before in
    let c16 = c17.before in
    let c13 = c16.before.before.before in
    let c10 = c13.before.before.before in
    let c8 = c10.before.before in
    let c6 = c8.before.before in
    let c4 = c6.before.before in
    let c2 = c4.before.before in
    let c1 = c2.before in
    let e = c1.before in
    let f = e.ranges in
    ran e.args.tell four_rotation _ (four_read f.a f.b f.c f.d)
    (plus number c1.add_told-a1.ensures
    ⇒ plus number c2.add_told-b1.ensures
    ⇒ minus (rounded number c4.rounded_told-e1.ensures) c6.sub_told-d1.ensures
    ⇒ minus (rounded number c8.rounded_told-e2.ensures) c10.sub_told-c1.ensures
    ⇒ record { done = pair c17.struct_told-8-1.given c13.rotation_told-turned.ensures.done; told = c13.rotation_told-turned.ensures.told }
    ▸ plus (rounded number c16.rounded_told-e3.ensures) c19.add_told-d2.ensures
    ⇒ plus (rounded number c21.rounded_told-e4.ensures) c24.add_told-c2.ensures
    ⇒ at-end)
