-- The walk ends at the first macroblock that wraps.
use Prim.Native.Nat.{◌*◌}
use mathlib.Core.Path.{refl, sym, ◌∙◌}
use native.Mathlib.Omega.{arith}
use Rattle.std.proofs.Common.{rules}
use Rattle.lifting.specs.Program.{at}
use Rattle.picture.specs.Sizes.{macroblocks}
use Rattle.transform.proofs.Walks.{any_below}
use Rattle.cores_told.specs.Blocks.{block_wraps}
use Rattle.cores_told.proofs.Blocks.{first-told}
use Rattle.cores_told.proofs.first_cores_wrap.Goals as goal

pub returns : goal.returns
returns c =
    let a = c.args in
    let e = c.macroblocks.ensures in
    any_below (macroblocks a.size) (λ k. block_wraps (at a.dc.now k) a.low.now (15 * k)) refl (omega (arith, e.value, c.numbers-n.ensures.value)) c.any.ensures.ran
    (λ x q k. search rules) (λ x b q l k. search rules)
    ∙ sym (first-told e.sized.wide a.size.height.0 a.dc.now a.low.now)
