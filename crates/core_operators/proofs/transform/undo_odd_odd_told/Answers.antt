-- The two negations of Figure 4.6, and then the shared lines undone, with its roundings.
use mathlib.Core.Path.{ap}
use Rattle.lifting.specs.Program.{◌then◌, back}
use Rattle.lifting.proofs.Traces.{uncalled, and-back, negated, ◌⇐◌, at_start, undone}
use Rattle.figures.specs.Figures.{odd_odd}
use Rattle.figures.specs.Pieces.{odd_odd_rounded}
use Rattle.figures.specs.Block.{list}
use Rattle.figures.proofs.Parts.{told}
use Rattle.core_operators.proofs.transform.undo_odd_odd_told.Goals as goal

pub returns : goal.returns
unfolding ◌then◌ back odd_odd_rounded odd_odd
returns c12 =
    let c8 = c12.before.before.before.before in
    let c4 = c8.before.before.before.before in
    let c2 = c4.before.before in
    let c1 = c2.before in
    let e = c1.before in
    undone e.args.tell odd_odd _ (ap list (told e.args.v c1.struct_told-1.given))
    (and-back (at_start ⇐ negated c2.negate_told-c.ensures ⇐ negated c4.negate_told-b.ensures) (uncalled c8.undo_odd_odd_rounded_told-o.ensures))
