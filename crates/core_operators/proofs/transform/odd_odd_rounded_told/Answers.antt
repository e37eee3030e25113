-- The lines that Figures 4.6 and 4.12 share in turn, each by what its calls ensure.
use mathlib.Core.Path.{ap}
use mir.Syntax.{w32}
use mir.ValLaws.{to_z-of_z}
use Rattle.lifting.proofs.Traces.{number, shifted, scaled, plus, minus, ◌⇒◌, at-end, ran}
use Rattle.figures.specs.Pieces.{odd_odd_rounded}
use Rattle.figures.specs.Block.{list}
use Rattle.figures.proofs.Parts.{told}
use Rattle.core_operators.proofs.transform.odd_odd_rounded_told.Goals as goal

pub returns : goal.returns
unfolding odd_odd_rounded
returns c55 =
    let c37 = c55.before.before.before.before.before.before.before.before.before.before.before.before.before.before.before.before.before.before in
    let c34 = c37.before.before.before in
    let c31 = c34.before.before.before in
    let c29 = c31.before.before in
    let c27 = c29.before.before in
    let c24 = c27.before.before.before in
    let c22 = c24.before.before in
    let c19 = c22.before.before.before in
    let c17 = c19.before.before in
    let c14 = c17.before.before.before in
    let c12 = c14.before.before in
    let c11 = c12.before in
    let c10 = c11.before in
    let c8 = c10.before.before in
    let c6 = c8.before.before in
    let c5 = c6.before in
    let t4 = c5.before in
    let e = t4.before.before.before.before in
    let v = ap list (told e.args.v t4.struct_told-4-1.given) in
    rw (to_z-of_z w32 _ e.ranges.k, to_z-of_z w32 _ e.ranges.l) at
    (ran e.args.tell (odd_odd_rounded _ _) _ v
    (plus number c5.add_told-d1.ensures
    ⇒ minus number c6.sub_told-c1.ensures
    ⇒ minus (shifted number c8.shift-t1.type_inv c8.shift-t1.ensures) c11.sub_told-a1.ensures
    ⇒ plus (shifted number c10.shift-t2.type_inv c10.shift-t2.ensures) c12.add_told-b1.ensures
    ⇒ minus (scaled number c14.scaled_told-e1.ensures) c17.sub_told-a2.ensures
    ⇒ plus (scaled number c19.scaled_told-e2.ensures) c22.add_told-b2.ensures
    ⇒ minus (scaled number c24.scaled_told-e3.ensures) c27.sub_told-a3.ensures
    ⇒ minus (shifted number c10.shift-t2.type_inv c10.shift-t2.ensures) c29.sub_told-b3.ensures
    ⇒ plus (shifted number c8.shift-t1.type_inv c8.shift-t1.ensures) c31.add_told-a4.ensures
    ⇒ plus number c34.add_told-c2.ensures
    ⇒ minus number c37.sub_told-d2.ensures
    ⇒ at-end))
