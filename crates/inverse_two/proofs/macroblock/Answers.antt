-- The rows of blocks from k on are filled and their numbers looked at; the places go up by a row of blocks at each turn, and are at every turn those that are multiplied out.
use Prim.Native.Nat.{ℕ, ◌+◌, ◌-◌, ◌*◌, ◌/◌, ◌%◌, ◌<◌}
use mathlib.Core.Path.{◌≡◌}
use native.Mathlib.Omega.{arith}
use Rattle.grid.proofs.Rows.{row-above}
use Rattle.large_numbers.proofs.Small.{neither, small_join, small_part}
use Rattle.inverse_two.proofs.Places.{four_filled, above}
use Rattle.inverse_two.proofs.macroblock.Goals as goal

-- the place of the group's first high-pass number
order : (r j c W : ℕ) → j < 4 → 240 * (r * W) + 240 * c + 60 * j ≡ 240 * ((4 * r + j) / 4 * W + c) + 60 * ((4 * r + j) % 4)
order r j c W h = let e : (4 * r + j) / 4 ≡ r = omega arith in rw e (omega arith)

pub loop-k-preserved : goal.loop-k-preserved
loop-k-preserved c =
    let v = c.loop-k.invariant in
    let a = c.args in
    let W = a.size.width.0 in
    let p = c.requires in
    let j : ℕ = c.loop-k.k - 1 in
    let up : c.loop-k.k * W ≡ j * W + W = row-above c.loop-k.k W (omega arith) in
    let low : j < 4 = omega arith in
    let columns : c.samples-w.result.width.0 ≡ 4 * (4 * W) = omega (arith, c.samples-w.ensures.width) in
    let samples-at : c.loop-k.row.samples - 4 * c.samples-w.result.width.0 ≡ a.cells.samples + j * (64 * W) = omega (arith, up, v.0, columns) in
    let numbers-at : c.loop-k.row.numbers - c.blocks-across.result.width.0 ≡ a.cells.numbers + j * (4 * W) = omega (arith, up, v.1, c.blocks-across.ensures.width) in
    let high-at : c.loop-k.row.high - 60 ≡ a.cells.high + 60 * j = omega (arith, v.2) in
    let y : ℕ = 4 * a.r + j in
    let wide : 0 < W = omega (arith, p.inside.0) in (
      samples-at,
      numbers-at,
      high-at,
      above wide a.high.now y (y + 1) (4 * a.r + c.loop-k.k) (4 * a.r + 4) a.c (a.c + 1) (omega arith) (omega arith) (omega arith) v.3
          (four_filled wide y a.c _ _ _ p.inside.0 (omega (arith, samples-at, p.cells_value.0)) (omega (arith, numbers-at, p.cells_value.1)) (omega (arith, high-at, p.cells_value.2, order a.r j a.c W low)) (rw columns at c.four_blocks-found.ensures.four_blocks)),
      neither (λ below here. small_join a.high.now (omega arith) here below) v.4 c.four_blocks-found.ensures.small,
    )

pub returns : goal.returns
returns c =
    let l = c.loop-k in
    let e : 4 * c.args.r + l.k ≡ 4 * c.args.r = omega arith in
    record {
      blocks_cored = rw e at l.invariant.3;
      small = λ h. small_part c.args.high.now (l.invariant.4 h) (omega (arith, l.invariant.2)) (omega arith);
    }
