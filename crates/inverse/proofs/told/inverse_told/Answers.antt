-- Level one wraps; or, where no number of level two is large, nothing does; or level two is judged, on the numbers that level one leaves once more.
use Prim.Native.Nat.{◌*◌}
use mathlib.Core.Path.{◌≡◌, refl, sym, ◌∙◌}
use native.Mathlib.Omega.{arith}
use lib.ListN.{length}
use Rattle.std.proofs.Common.{rules}
use Rattle.lifting.proofs.Tests.{or_no}
use Rattle.picture.specs.Sizes.{macroblocks}
use Rattle.picture.specs.Planes.{planes}
use Rattle.transform.specs.Wraps.{quarter_wraps_by}
use Rattle.inverse.proofs.Both.{view_is, samples_are, wraps_are}
use Rattle.inverse.proofs.Judged.{second-calm}
use Rattle.inverse.proofs.told.inverse_told.Goals as goal

pub returns-then-first-clause-samples_after : goal.returns-then-first-clause-samples_after
returns-then-first-clause-samples_after c =
    let f = c.args.frame in
    let s = planes c.planes.inside.dc.now c.planes.inside.low.now c.planes.inside.high.now in
    let long : length c.level_one_told-first.new.view ≡ 16 * macroblocks f.size = search rules in
    rw (← c.planes.view_is) (samples_are f.mode f.size s c.level_two-large_high.ensures.samples_after (view_is f.mode f.size s _ long c.level_one_told-first.ensures.view_after))

pub returns-then-first-clause-value : goal.returns-then-first-clause-value
unfolding quarter_wraps_by
returns-then-first-clause-value c =
    let f = c.args.frame in
    let s = planes c.planes.inside.dc.now c.planes.inside.low.now c.planes.inside.high.now in
    rw (← c.planes.view_is) (wraps_are f.mode f.size s (sym c.if-first.true ∙ c.level_one_told-first.ensures.value) refl refl)

pub returns-clause-samples_after : goal.returns-clause-samples_after
returns-clause-samples_after c =
    let f = c.args.frame in
    let s = planes c.planes.inside.dc.now c.planes.inside.low.now c.planes.inside.high.now in
    let long : length c.level_one_told-first.new.view ≡ 16 * macroblocks f.size = search rules in
    rw (← c.planes.view_is) (samples_are f.mode f.size s c.level_two-large_high.ensures.samples_after (view_is f.mode f.size s _ long c.level_one_told-first.ensures.view_after))

pub returns-clause-value : goal.returns-clause-value
unfolding quarter_wraps_by
returns-clause-value c =
    let f = c.args.frame in
    let s = planes c.planes.inside.dc.now c.planes.inside.low.now c.planes.inside.high.now in
    let sized = c.macroblocks.ensures.sized in
    let front : c.numbers-front.result ≡ 16 * macroblocks f.size = omega (arith, c.numbers-front.ensures.value, c.macroblocks.ensures.value) in
    let long : length c.level_one_told-first.new.view ≡ 16 * macroblocks f.size = search rules in
    let none = or_no c.any_large-large_front.result c.level_two-large_high.result c.if-large_front-large_high.false in
    let calm = second-calm f.mode.second sized.wide sized.tall (rw front at (c.any_large-large_front.ensures.within none.0)) (c.level_two-large_high.ensures.within none.1) in
    rw (← c.planes.view_is) (wraps_are f.mode f.size s (sym c.if-first.false ∙ c.level_one_told-first.ensures.value) calm (view_is f.mode f.size s _ long c.level_one_told-first.ensures.view_after))

pub returns-then-large_front-large_high-clause-samples_after : goal.returns-then-large_front-large_high-clause-samples_after
returns-then-large_front-large_high-clause-samples_after c =
    let f = c.args.frame in
    let s = planes c.planes.inside.dc.now c.planes.inside.low.now c.planes.inside.high.now in
    let long : length c.level_one.new.view ≡ 16 * macroblocks f.size = search rules in
    rw (← c.planes.view_is) (samples_are f.mode f.size s c.level_two_told.ensures.samples_after (view_is f.mode f.size s _ long c.level_one.ensures))

pub returns-then-large_front-large_high-clause-value : goal.returns-then-large_front-large_high-clause-value
unfolding quarter_wraps_by
returns-then-large_front-large_high-clause-value c =
    let f = c.args.frame in
    let s = planes c.planes.inside.dc.now c.planes.inside.low.now c.planes.inside.high.now in
    let long : length c.level_one.new.view ≡ 16 * macroblocks f.size = search rules in
    rw (← c.planes.view_is) (wraps_are f.mode f.size s (sym c.if-first.false ∙ c.level_one_told-first.ensures.value) c.level_two_told.ensures.value (view_is f.mode f.size s _ long c.level_one.ensures))
