-- The square of lane l is put through f and stored; those before it stay.
use Prim.Native.Nat.{◌<◌}
use mathlib.Core.Path.{◌≡◌, refl, ◌∙◌}
use mathlib.Core.Logic.{by_cases}
use mathlib.Core.List.{List}
use native.Mathlib.Omega.{arith}
use native.Mathlib.Decide.{ℕ_discrete}
use lib.IntN.{ℤ}
use lib.ListN.{length}
use Rattle.figures.specs.Block.{flat}
use Rattle.lanes.proofs.Rows.{lanes_held}
use Rattle.lanes.proofs.Beside.{square_own, square_kept}
use Rattle.lanes.proofs.each_square.Goals as goal

sixteen : (b : List (List ℤ)) → length (flat b) ≡ 16
unfolding flat
sixteen b = refl

pub loop-l-preserved : goal.loop-l-preserved
loop-l-preserved g c =
    let l = c.loop-l.l in
    let low : l < 4 = omega arith in
    let long = c.loop-l.invariant.0 in
    let inside = lanes_held _ _ _ _ _ _ _ c.row-a.ensures c.row-b.ensures c.row-c.ensures c.row-d.ensures l low in (
      c.put_square.auto.grid ∙ long,
      λ n h. by_cases (ℕ_discrete n l)
          (λ e. rw e (record { block = c.lane.result; made = c.f.result; by = c.f.ensures; read = c.lane.ensures ∙ inside; stored = square_own l c.loop-l.out _ _ low long (sixteen _) c.put_square.ensures }))
          (λ o. let s = c.loop-l.invariant.1 n (omega (arith, o)) in record { block = s.block; made = s.made; by = s.by; read = s.read; stored = square_kept n l c.loop-l.out _ _ (omega arith) low o c.put_square.ensures ∙ s.stored }),
    )
