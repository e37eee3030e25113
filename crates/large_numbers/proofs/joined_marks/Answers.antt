-- Where the joined marks are below twice the limit, each mark is, and so no number that was looked at is above the limit.
use Prim.Native.Nat.{◌*◌, ◌≤◌}
use native.Mathlib.Omega.{arith}
use lib.IntN.{nat_abs}
use Rattle.lifting.specs.Program.{at}
use mir.Val.{SFits}
use mir.Syntax.{w32}
use Rattle.large_numbers.proofs.Marks.{marked, joined}
use Rattle.large_numbers.proofs.Small.{one_more}
use Rattle.large_numbers.proofs.joined_marks.Goals as goal

pub loop-x-preserved : goal.loop-x-preserved
loop-x-preserved c =
    let k = c.loop-x.x-index in
    let v = c.args.s.now in
    let B = c.args.limit in (
      λ h.
          let below = joined c.loop-x.joined c.mark-joined.result (2 * B) h in
          one_more k (λ i. nat_abs (at v i) ≤ B) (c.loop-x.invariant.0 below.0) (marked B (omega (arith, c.well_formed)) (at v k) (omega arith) c.mark-joined.ensures below.1) (omega arith),
      one_more k (λ i. SFits w32 (at v i)) c.loop-x.invariant.1 (record { sfits = omega arith }) (omega arith),
    )
