-- The row is filled, and its numbers looked at, from its last four blocks to its first; the numbers of level one stay in place until they are read.
use Prim.Native.Nat.{ℕ, ◌+◌, ◌-◌, ◌*◌, ◌/◌, ◌%◌, ◌<◌}
use mathlib.Core.Path.{◌≡◌}
use mathlib.Core.Logic.{by_cases}
use native.Mathlib.Omega.{arith}
use native.Mathlib.Decide.{dec_lt}
use Rattle.large_numbers.proofs.Small.{neither, small_part}
use Rattle.inverse_two.proofs.Places.{four_filled, left-of, free_row}
use Rattle.inverse_two.proofs.block_row.Goals as goal

-- the place of the first high-pass number of the four blocks
order : (y c W : ℕ) → y < 4 → 60 * y + 240 * c ≡ 240 * (y / 4 * W + c) + 60 * (y % 4)
order y c W h = let e : y / 4 ≡ 0 = omega arith in rw e (omega arith)

pub loop-c-preserved : goal.loop-c-preserved
loop-c-preserved c =
    let v = c.loop-c.invariant in
    let y = c.args.y in
    let i : ℕ = c.loop-c.c - 1 in
    let W = c.args.size.width.0 in
    let high = c.args.high.now in
    let wide = c.get-p.ensures.sized.wide in
    let columns : c.samples-w.result.width.0 ≡ 4 * (4 * W) = omega (arith, c.samples-w.ensures.width) in (
      omega arith,
      left-of wide high y (y + 1) i (i + 1) c.loop-c.c W (omega arith) (omega arith) (omega arith) (free_row wide y i (i + 1) c.loop-c.c W (omega arith)) v.1
          (four_filled wide y i _ _ _ (omega arith) (omega arith) (omega arith) (omega (arith, order y i W c.requires.y_bound)) (rw columns at c.four_blocks-found.ensures.four_blocks)),
      neither (λ right here k n m. by_cases (dec_lt k c.loop-c.c) (λ o. small_part high here (omega arith) (omega (arith, o))) (λ o. right k (omega (arith, o)) m)) v.2 c.four_blocks-found.ensures.small,
    )

pub returns : goal.returns
returns c =
    let l = c.loop-c in
    let e : l.c ≡ 0 = omega arith in
    record { blocks_cored = rw e at l.invariant.1; small = λ h i. l.invariant.2 h i (omega (arith, e)) }
