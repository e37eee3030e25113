-- Row after row of macroblocks, and then the blocks are the squares of the level's grid, and all samples were looked at.
use Prim.Native.Nat.{ℕ, ◌*◌}
use mathlib.Core.Path.{◌≡◌, ◌∙◌, ap}
use native.Mathlib.Omega.{arith}
use Rattle.forward_two_cores.specs.Blocks.{square_in}
use Rattle.forward_two_cores.proofs.Whole.{sample_block, second_undone_lem}
use Rattle.forward_two_edges.specs.Unfiltered.{unfiltered}
use Rattle.forward_two.proofs.Levels.{as_many}
use Rattle.forward_two.proofs.undo_filtered.Goals as goal

pub returns-clause-high_after : goal.returns-clause-high_after
returns-clause-high_after c =
    let a = c.args in
    let W = a.size.width.0 in
    let H = a.size.height.0 in
    let z = c.across-columns.ensures.sized in
    let u = unfiltered a.size a.samples.now in
    let all : c.loop-r.r ≡ H = omega arith in
    let most : c.loop-r.r * W ≡ W * H = ap (λ (r : ℕ). r * W) all ∙ omega arith in
    second_undone_lem z.wide H z.tall (square_in W u) c.loop-r.dc c.loop-r.low c.loop-r.high u (as_many a.size a.samples.now z.wide z.tall ∙ c.requires.samples_len)
    (λ b h. sample_block z.wide H z.tall u b) (λ t h. c.loop-r.invariant.2.done t (omega (arith, most, h)))
