-- The look at the samples finds nothing large, and nothing wraps; or the cores are judged, and then the filters.
use mathlib.Core.Path.{sym, ◌∙◌}
use native.Mathlib.Omega.{arith}
use Rattle.large_numbers.proofs.Small.{row_as}
use Rattle.forward.proofs.Judged.{calm, core-wraps, filter-wraps}
use Rattle.forward.proofs.told.level_two_wraps.Goals as goal

pub returns-then-plane_cores_wrap : goal.returns-then-plane_cores_wrap
returns-then-plane_cores_wrap c =
    let sized = c.blocks-blocks.ensures.sized in
    let row = row_as c.any_large.ensures.row (omega (arith, c.requires.samples_len)) in
    core-wraps c.args.filtered (omega (arith, sized.wide)) (omega (arith, sized.tall)) row c.requires.high_value (sym c.if-plane_cores_wrap.true ∙ c.plane_cores_wrap.ensures)

pub filters_wrap_if-requires : goal.filters_wrap_if-requires
filters_wrap_if-requires c = rw (c.blocks-blocks.ensures.width, c.blocks-blocks.ensures.height) (omega (arith, c.requires.samples_len))

pub returns-then-any_large : goal.returns-then-any_large
returns-then-any_large c =
    let sized = c.blocks-blocks.ensures.sized in
    let row = row_as c.any_large.ensures.row (omega (arith, c.requires.samples_len)) in
    let told = rw (c.blocks-blocks.ensures.width, c.blocks-blocks.ensures.height) at c.filters_wrap_if.ensures in
    filter-wraps c.args.filtered (omega (arith, sized.wide)) (omega (arith, sized.tall)) row c.requires.high_value (sym c.if-plane_cores_wrap.false ∙ c.plane_cores_wrap.ensures) told

pub returns : goal.returns
returns c =
    let sized = c.blocks-blocks.ensures.sized in
    calm c.args.filtered (omega (arith, sized.wide)) (omega (arith, sized.tall)) (c.any_large.ensures.within c.if-any_large.false)
