-- The lines of Figure 4.4 in turn, and from the last to the first, each by what its calls ensure.
use mathlib.Core.Path.{◌∙◌, ap}
use mir.Syntax.{w32}
use mir.ValLaws.{to_z-of_z}
use Rattle.lifting.specs.Program.{back}
use Rattle.lifting.proofs.Traces.{number, rounded, difference, plus, minus, taken, swapped, ◌⇒◌, at-end, ran, ◌⇐◌, at_start, undone}
use Rattle.figures.specs.Figures.{hadamard}
use Rattle.figures.specs.Block.{list}
use Rattle.figures.proofs.Parts.{told}
use Rattle.core_operators.proofs.Ors.{in_order, from_the_last}
use Rattle.core_operators.proofs.transform.hadamard_told.Goals as goal

pub returns : goal.returns
unfolding back hadamard
returns c33 =
    let c21 = c33.before.before.before.before.before.before.before.before.before.before.before.before in
    let c18 = c21.before.before.before in
    let c15 = c18.before.before.before in
    let c13 = c15.before.before in
    let c11 = c13.before.before in
    let c9 = c11.before.before in
    let c6 = c9.before.before.before in
    let c5 = c6.before in
    let t4 = c5.before in
    let e = t4.before.before.before.before in
    let v = ap list (told e.args.v t4.struct_told-4-1.given) in
    let run = rw (to_z-of_z w32 _ e.ranges.r) at
    (ran e.args.tell (hadamard _) _ v
    (plus number c5.add_told-a1.ensures
    ⇒ minus number c6.sub_told-b1.ensures
    ⇒ swapped
    ⇒ taken (rounded (difference number number c9.sub_told-e1.ensures) c11.rounded_told-t.ensures) c13.sub_told-c1.ensures
    ⇒ taken (rounded (difference number number c9.sub_told-e1.ensures) c11.rounded_told-t.ensures) c15.sub_told-d1.ensures
    ⇒ minus number c18.sub_told-a2.ensures
    ⇒ plus number c21.add_told-b2.ensures
    ⇒ at-end)) in
    let undo = rw (to_z-of_z w32 _ e.ranges.r) at
    (undone e.args.tell (hadamard _) _ v
    (at_start
    ⇐ minus number c6.sub_told-b1.ensures
    ⇐ plus number c5.add_told-a1.ensures
    ⇐ taken (rounded (difference number number c9.sub_told-e1.ensures) c11.rounded_told-t.ensures) c13.sub_told-c1.ensures
    ⇐ taken (rounded (difference number number c9.sub_told-e1.ensures) c11.rounded_told-t.ensures) c15.sub_told-d1.ensures
    ⇐ swapped
    ⇐ plus number c21.add_told-b2.ensures
    ⇐ minus number c18.sub_told-a2.ensures)) in
    let w1 = c5.add_told-a1.result.wrapped in
    let w2 = c6.sub_told-b1.result.wrapped in
    let w3 = c9.sub_told-e1.result.wrapped in
    let w4 = c11.rounded_told-t.result.wrapped in
    let w5 = c13.sub_told-c1.result.wrapped in
    let w6 = c15.sub_told-d1.result.wrapped in
    let w7 = c18.sub_told-a2.result.wrapped in
    let w8 = c21.add_told-b2.result.wrapped in
    record { done = run.done; undone = undo.done; told = in_order w1 w2 w3 w4 w5 w6 w7 w8 ∙ run.told; untold = from_the_last w1 w2 w3 w4 w5 w6 w7 w8 ∙ undo.told }
