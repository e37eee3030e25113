-- Four after four down both columns.
use Prim.Native.Nat.{◌+◌}
use mathlib.Core.Path.{◌≡◌}
use native.Mathlib.Omega.{arith}
use Rattle.forward_two_edges.proofs.Strips.{columns_more}
use Rattle.forward_two_edges.proofs.column_fours.Goals as goal

pub loop-l-preserved : goal.loop-l-preserved
loop-l-preserved c =
    let e = c.below-next.ensures in
    let a = c.args in
    let v = c.loop-l.invariant in
    let p = c.loop-l.next in (
      omega arith,
      omega (arith, v.1, e.0),
      columns_more a.samples.now a.w a.at.samples a.at.strip c.loop-l.l p.samples (p.samples + 1) _ _ v.1 (omega (arith, v.1)) v.3 (omega (arith, v.3)) v.2 c.unfilter_four.ensures c.unfilter_four-in-loop-l.ensures,
      omega (arith, v.3, e.1),
    )

pub returns-clause-columns : goal.returns-clause-columns
returns-clause-columns c = let e : c.loop-l.l ≡ c.args.n = omega arith in rw e at c.loop-l.invariant.2
