-- The macroblocks from c on are filled and their numbers looked at, from the last to the first; the row's numbers of level one lie above it.
use Prim.Native.Nat.{ℕ, ◌+◌, ◌-◌, ◌*◌}
use mathlib.Core.Path.{◌≡◌}
use native.Mathlib.Omega.{arith}
use Rattle.large_numbers.proofs.Small.{neither, small_join, small_part}
use Rattle.inverse_two.proofs.Places.{blocks-all, left-of, free_below}
use Rattle.inverse_two.proofs.macroblock_row.Goals as goal

pub loop-c-preserved : goal.loop-c-preserved
loop-c-preserved c =
    let v = c.loop-c.invariant in
    let W = c.args.size.width.0 in
    let wide = c.get-p.ensures.sized.wide in
    let high = c.args.high.now in
    let y : ℕ = 4 * c.args.r in
    let i : ℕ = c.loop-c.c - 1 in (
      omega arith,
      left-of wide high y (y + 4) i (i + 1) c.loop-c.c W (omega arith) (omega arith) (omega arith) (free_below wide y (y + 4) i (i + 1) c.loop-c.c W (omega (arith, c.requires.inside.0))) v.1 c.macroblock-found.ensures.blocks_cored,
      neither (λ right here. small_join high (omega arith) here right) v.2 (rw c.after-its.ensures.high_after at c.macroblock-found.ensures.small),
    )

pub returns : goal.returns
returns c =
    let l = c.loop-c in
    let e : l.c ≡ 0 = omega arith in
    record {
      rows_cored = blocks-all c.get-p.ensures.sized.wide c.args.high.now (4 * c.args.r) (4 * c.args.r + 4) (rw e at l.invariant.1);
      small = λ h. small_part c.args.high.now (l.invariant.2 h) (omega (arith, e)) (omega arith);
    }
