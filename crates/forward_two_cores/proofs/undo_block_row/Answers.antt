-- Four blocks after four: those of the macroblocks before the next are the samples' squares undone, the others as they were.
use Prim.Native.Nat.{◌+◌, ◌*◌, ◌/◌, ◌%◌, ◌≤◌}
use mathlib.Core.Path.{◌≡◌, refl, ◌∙◌}
use native.Mathlib.Omega.{arith}
use Rattle.picture.proofs.CheckLaws.{few_macroblocks}
use Rattle.forward_two_cores.proofs.Stores.{replaced_as, replaced_in, along_more, blocks_replaced, side_by_side, sample_square, row_begins, row_ends}
use Rattle.forward_two_cores.proofs.undo_block_row.Goals as goal
use Rattle.forward_two_cores.proofs.undo_block_row.Goals.{At-loop-c}

-- the row of blocks lies in the picture, which is small
inside : (l : At-loop-c) → let a = l.args in let W = a.size.width.0 in let n = W * a.size.height.0 in
    (a.at + 64 * W ≤ 256 * n) × (a.cells.dc + W ≤ n) × (n ≤ 216825)
inside l =
    let a = l.args in
    let e = row_ends a.y a.size.width.0 a.size.height.0 l.requires.below in
    (omega (arith, e.0, l.requires.at_value.0), omega (arith, e.1, l.requires.at_value.1), few_macroblocks l.across-columns.ensures.sized)

pub loop-c-preserved : goal.loop-c-preserved
loop-c-preserved c =
    let a = c.args in
    let v = c.loop-c.invariant in
    let W = a.size.width.0 in
    let m = a.cells.dc in
    let x = c.loop-c.c in
    let k = a.y % 4 in
    let here = c.after-here.result.dc in
    let there = c.after-here.ensures in
    let e = rw c.samples-w.ensures.width at c.undo_four_cores-z.ensures in
    let begins : a.at + 16 * x ≡ a.y / 4 * (256 * W) + 16 * x + k * (4 * (16 * W)) = omega (arith, row_begins a.y W, c.requires.at_value.0) in
    let four = blocks_replaced (16 * W) (a.at + 16 * x) a.samples.now here k c.undo_four_cores-z.result c.loop-c.dc c.loop-c.low _ _ (omega arith) (omega (arith, c.after-here.result.of_one)) e.by_index e.placed c.put_zeros.ensures in
    let undone = replaced_as (λ t h. side_by_side (16 * W) (a.at + 16 * x) a.samples.now here k (a.y / 4 * (256 * W) + 16 * x) begins t h
    ∙ sample_square c.across-columns.ensures.sized.wide (a.y / 4) x (omega arith) refl c.requires.at_value.1 a.samples.now t (omega (arith, h, there))) four in (
      omega arith,
      omega (arith, v.1),
      omega (arith, v.2),
      omega (arith, v.3),
      along_more k (k + 1) m (m + x) (m + (x + 1)) (omega arith) (omega arith) v.4
          (replaced_in (λ t h. ((omega (arith, h, there), omega (arith, h, there)), h.1, h.2)) (λ t h. ((omega (arith, h, there), omega (arith, h, there)), h.1, h.2)) undone),
    )

pub some_large-requires : goal.some_large-requires
some_large-requires c = omega (arith, inside c.before, c.samples-w.ensures.width, c.requires.samples_len, c.requires.lengths.dc, c.requires.lengths.low, c.requires.lengths.high)

pub undo_four_cores-z-requires-clause-w_in_bounds : goal.undo_four_cores-z-requires-clause-w_in_bounds
undo_four_cores-z-requires-clause-w_in_bounds c = omega (arith, inside c.before.before.before.before, c.samples-w.ensures.width, c.requires.samples_len)
