-- Row after row, each of which begins where the one before ends; and then the blocks are the squares of the level's grid, and all samples were looked at.
use Prim.Native.Nat.{◌*◌}
use mathlib.Core.Path.{◌≡◌}
use native.Mathlib.Omega.{arith}
use Rattle.forward_two_cores.specs.Blocks.{square_in}
use Rattle.forward_two_cores.proofs.Whole.{sample_block, second_undone_lem}
use Rattle.forward_two_cores.proofs.undo_cores.Goals as goal

pub returns-clause-high_after : goal.returns-clause-high_after
returns-clause-high_after c =
    let a = c.args in
    let W = a.size.width.0 in
    let H = a.size.height.0 in
    let wide = c.across-columns.ensures.sized.wide in
    let tall = c.across-columns.ensures.sized.tall in
    let all : c.loop-r.r ≡ H = omega arith in
    let most : c.loop-r.r * W ≡ W * H = rw all (omega arith) in
    second_undone_lem wide H tall (square_in W a.samples.now) c.loop-r.dc c.loop-r.low c.loop-r.high a.samples.now c.requires.samples_len
    (λ b h. sample_block wide H tall a.samples.now b) (λ t h. c.loop-r.invariant.4.own t (omega arith, omega (arith, most)))
