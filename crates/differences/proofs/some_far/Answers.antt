-- The pair is the one at the next place of both pieces.
use mathlib.Core.Path.{refl}
use mathlib.Core.List.{[], ◌∷◌}
use native.Mathlib.Omega.{arith}
use lib.IntN.{pos, nat_abs, ◌-ℤ◌}
use lib.ListN.{length}
use Rattle.std.proofs.Common.{length-append}
use Rattle.std.proofs.lemmas.Slice.Zip.{zip_turn}
use Rattle.lifting.specs.Program.{at}
use Rattle.lifting.proofs.Bits.{back}
use Rattle.differences.specs.Near.{near}
use Rattle.differences.proofs.Differences.{one_more}
use Rattle.differences.proofs.some_far.Goals as goal

pub loop-x-preserved : goal.loop-x-preserved
loop-x-preserved c =
    let a = c.args.a.now in
    let b = c.args.b.now in
    let p = c.in-Some in
    let k = length c.loop-x.yielded in
    let turn = zip_turn a b c.loop-x.yielded c.into_iter-x-iterator.result c.loop-x.x-iterator c.next.new.self c.next.result (cc) (cc) c.loop-x.yielded_by (p.x, p.y) p.is c.next.ensures.steps in
    let d = rw (back {x = p.x.now} (omega arith), back {x = p.y.now} (omega arith), turn.2 (pos 0), turn.3 (pos 0)) at c.abs_diff.ensures in
    rw (length-append c.loop-x.yielded ((p.x, p.y) ∷ []), d) (one_more (near c.args.tolerance a b) k c.args.tolerance (nat_abs (at a k -ℤ at b k)) refl c.loop-x.invariant)
