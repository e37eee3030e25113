-- The look at the high-pass numbers, the numbers of level one, the planes held in lanes, the core transforms and the move, one after another.
use mathlib.Core.Path.{◌≡◌, ◌∙◌, ap}
use native.Mathlib.Omega.{arith}
use borrow.Author.Rules.{rules}
use Prim.Native.Nat.{◌-◌, ◌*◌}
use lib.IntN.{ℤ}
use Rattle.lifting.specs.Program.{run}
use Rattle.figures.specs.Figures.{core}
use Rattle.lanes.proofs.Beside.{beside_more}
use Rattle.inverse_two.specs.Blocks.{block_from, block_in_lane}
use Rattle.inverse_two.proofs.Kernel.{four-cored, length-core}
use Rattle.inverse_two.proofs.four_blocks.four_blocks.Goals as goal

pub loop-l-preserved : goal.loop-l-preserved
loop-l-preserved c =
    let l = c.loop-l.l in
    let v = c.loop-l.invariant in
    let its = block_in_lane c.get_four-zeros.result c.row-first.result c.row-second.result c.row-third.result c.row-fourth.result in (
      omega arith,
      beside_more (λ n. run core (its n)) l _ _ _ (omega arith) v.0 (c.core.ensures ∙ ap (run core) {y = its l} (c.block-b.ensures ∙ ap (λ (z : ℤ). block_from z c.row-first.result c.row-second.result c.row-third.result c.row-fourth.result (12 - 4 * l)) (search rules))) (length-core _) c.put_square.ensures v.1,
    )

pub returns : goal.returns
returns c =
    let four : c.loop-l.l ≡ 4 = omega arith in
    record {
      four_blocks = four-cored _ _ c.get_four-zeros.result _ _ c.get_four-zeros.ensures c.row-first.ensures c.row-second.ensures c.row-third.ensures c.row-fourth.ensures _ _
          (rw four at c.loop-l.invariant.1) c.move_squares.ensures;
      small = c.some_large-large.ensures.small;
    }
