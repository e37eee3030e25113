-- As level one: the looks find nothing large, and nothing wraps; or the cores were judged before the level ran, and then the filters.
use Prim.Native.Nat.{◌*◌}
use mathlib.Core.Path.{◌≡◌, sym, ◌∙◌}
use native.Mathlib.Omega.{arith}
use lib.Seq.{length-take-le}
use Rattle.lifting.proofs.Tests.{or_no}
use Rattle.picture.specs.Sizes.{macroblocks}
use Rattle.large_numbers.proofs.Small.{row_as}
use Rattle.inverse.proofs.Judged.{core-wraps, second-calm, second-filter-wraps}
use Rattle.inverse.proofs.told.level_two_told.Goals as goal

pub returns-then-cores-clause-value : goal.returns-then-cores-clause-value
returns-then-cores-clause-value c =
    let front : c.numbers-front.result ≡ 16 * macroblocks c.args.size = omega (arith, c.numbers-front.ensures.value, c.macroblocks.ensures.value) in
    core-wraps c.args.filtered _ _ _ (sym c.if-cores.true ∙ (rw front at c.second_cores_wrap-cores.ensures))

pub filters_wrap_if-requires : goal.filters_wrap_if-requires
filters_wrap_if-requires c = rw (c.blocks-blocks.ensures.width, c.blocks-blocks.ensures.height) (omega (arith, c.level_two.auto.samples, c.requires.samples_len))

pub returns-then-large_view-large_high-clause-value : goal.returns-then-large_view-large_high-clause-value
returns-then-large_view-large_high-clause-value c =
    let sized = c.macroblocks.ensures.sized in
    let front : c.numbers-front.result ≡ 16 * macroblocks c.args.size = omega (arith, c.numbers-front.ensures.value, c.macroblocks.ensures.value) in
    let view = row_as (rw front at c.any_large-large_view.ensures.row) (length-take-le _ c.args.samples.now (omega (arith, c.requires.samples_len))) in
    let told = rw (c.blocks-blocks.ensures.width, c.blocks-blocks.ensures.height) at c.filters_wrap_if.ensures in
    second-filter-wraps c.args.filtered sized.wide sized.tall view (row_as c.any_large-large_high.ensures.row c.requires.high_len)
    (sym c.if-cores.false ∙ (rw front at c.second_cores_wrap-cores.ensures)) c.level_two.ensures.samples_after told

pub returns-clause-value : goal.returns-clause-value
returns-clause-value c =
    let sized = c.macroblocks.ensures.sized in
    let front : c.numbers-front.result ≡ 16 * macroblocks c.args.size = omega (arith, c.numbers-front.ensures.value, c.macroblocks.ensures.value) in
    let none = or_no c.any_large-large_view.result c.any_large-large_high.result c.if-large_view-large_high.false in
    second-calm c.args.filtered sized.wide sized.tall (rw front at (c.any_large-large_view.ensures.within none.0)) (c.any_large-large_high.ensures.within none.1)
