-- The walk ends at the first block that wraps.
use Prim.Native.Nat.{◌*◌}
use mathlib.Core.Path.{refl, sym, ◌∙◌}
use native.Mathlib.Omega.{arith}
use Rattle.std.proofs.Common.{rules}
use Rattle.lifting.specs.Program.{at}
use Rattle.picture.specs.Sizes.{macroblocks}
use Rattle.transform.specs.Grids.{block_order}
use Rattle.transform.proofs.Walks.{any_below}
use Rattle.cores_told.specs.Blocks.{block_wraps}
use Rattle.cores_told.proofs.Blocks.{second-told}
use Rattle.cores_told.proofs.second_cores_wrap.Goals as goal

pub returns : goal.returns
returns c =
    let a = c.args in
    let e = c.macroblocks.ensures in
    any_below (16 * macroblocks a.size) (λ k. block_wraps (at a.view.now k) a.high.now (15 * block_order a.size.width.0 k)) refl (omega (arith, e.value, c.numbers-blocks.ensures.value)) c.any.ensures.ran
    (λ x q k. search rules) (λ x b q l k. search rules)
    ∙ sym (second-told e.sized.wide a.size.height.0 a.view.now a.high.now)
