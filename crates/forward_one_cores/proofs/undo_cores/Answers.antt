-- One group after another: the macroblocks before the next are undone, the others as they were.
use mathlib.Core.Path.{◌∙◌}
use native.Mathlib.Omega.{arith}
use Rattle.std.proofs.Common.{rules}
use Rattle.lifting.specs.Program.{undo}
use Rattle.figures.specs.Figures.{core}
use Rattle.picture.specs.Sizes.{Sized}
use Rattle.forward_one_cores.proofs.Stores.{replaced_next}
use Rattle.forward_one_cores.proofs.Whole.{all_undone}
use Rattle.forward_one_cores.proofs.undo_cores.Goals as goal

pub returns : goal.returns
returns c =
    let sized : Sized c.args.size = search rules in
    all_undone sized.wide c.args.size.height.0 sized.tall c.args.dc.now c.args.low.now _ _ (λ m h. c.loop-t.invariant.2.own m (omega arith) (omega (arith, h, c.requires.of-dc)))

pub returns-2 : goal.returns-2
returns-2 c =
    let sized : Sized c.args.size = search rules in
    let last = replaced_next (undo core) c.loop-t-test.true (omega arith) c.loop-t.invariant.2 c.undo_group.ensures in
    all_undone sized.wide c.args.size.height.0 sized.tall c.args.dc.now c.args.low.now _ _ (λ m h. last.own m (omega arith) (omega (arith, h, c.requires.of-dc)))

pub loop-t-preserved : goal.loop-t-preserved
loop-t-preserved c =
    let v = c.loop-t.invariant in
    let k = c.undo_group.auto in
    (k.dc ∙ v.0, k.low ∙ v.1, replaced_next (undo core) c.loop-t-test.true (omega arith) v.2 c.undo_group.ensures, omega (arith, v.3))
