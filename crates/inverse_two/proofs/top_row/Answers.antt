-- The four rows of blocks are filled, and their numbers looked at, from the last to the first; the places of each are those of the one below, less a row.
use Prim.Native.Nat.{ℕ, ◌+◌, ◌-◌, ◌*◌, ◌/◌, ◌%◌, ◌<◌}
use mathlib.Core.Path.{◌≡◌}
use mathlib.Core.List.{List}
use mathlib.Core.Logic.{by_cases}
use native.Mathlib.Omega.{arith}
use native.Mathlib.Decide.{dec_lt}
use lib.IntN.{ℤ}
use Rattle.grid.proofs.Rows.{row-above}
use Rattle.large_numbers.specs.Small.{Small}
use Rattle.large_numbers.proofs.Small.{neither, small_part}
use Rattle.inverse_two.proofs.Places.{blocks-all, above}
use Rattle.inverse_two.proofs.top_row.Goals as goal

pub loop-y-preserved : goal.loop-y-preserved
loop-y-preserved c =
    let v = c.loop-y.invariant in
    let y : ℕ = c.loop-y.y - 1 in
    let W = c.args.size.width.0 in
    let up : c.loop-y.y * W ≡ y * W + W = row-above c.loop-y.y W (omega arith) in (
      omega (arith, up, v.0, c.samples-w.ensures.width),
      omega (arith, up, v.1, c.blocks-across.ensures.width),
      omega (arith, v.2),
      above c.samples-w.ensures.sized.wide c.args.high.now y (y + 1) c.loop-y.y 4 0 W (omega arith) (omega arith) (omega arith) v.3 c.block_row-found.ensures.blocks_cored,
      neither (λ below here j k n m o. by_cases (dec_lt j c.loop-y.y) (λ z. small_part c.args.high.now (here k o) (omega (arith, v.2, z)) (omega (arith, v.2, z))) (λ z. below j k (omega (arith, z)) m o)) v.4 c.block_row-found.ensures.small,
    )

-- four groups of sixty in each macroblock
four-rows : (v : List ℤ) (W : ℕ) → ((j c : ℕ) → j < 4 → c < W → Small v (60 * j + 240 * c) (60 * j + 240 * c + 60)) → Small v 0 (240 * W)
four-rows v W rows i n m = rows (i % 240 / 60) (i / 240) (omega arith) (omega arith) i (omega arith) (omega arith)

pub returns : goal.returns
returns c =
    let l = c.loop-y in
    let e : l.y ≡ 0 = omega arith in
    record {
      rows_cored = blocks-all c.samples-w.ensures.sized.wide c.args.high.now 0 4 (rw e at l.invariant.3);
      small = λ h. four-rows c.args.high.now c.args.size.width.0 (λ j k. l.invariant.4 h j k (omega (arith, e)));
    }
