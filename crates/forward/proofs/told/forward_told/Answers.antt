-- Level two undone, and what it leaves looked at: where nothing is large nothing wraps, and else both levels are judged.
use mathlib.Core.Bool.{◌||◌}
use native.Mathlib.Omega.{arith}
use Rattle.std.proofs.Common.{rules}
use Rattle.lifting.proofs.Tests.{or_no}
use Rattle.picture.specs.Sizes.{macroblocks}
use Rattle.picture.specs.Planes.{Lengths, planes}
use Rattle.transform.proofs.NoWrap.{first-within}
use Rattle.forward.proofs.Judged.{calm}
use Rattle.forward.proofs.Whole.{planes-are, wraps_are}
use Rattle.forward.proofs.told.forward_told.Goals as goal

pub returns-then-large-large_dc-clause-high_after : goal.returns-then-large-large_dc-clause-high_after
returns-then-large-large_dc-clause-high_after c =
    let f = c.args.frame in
    let two = c.undo_level_two-large.new in
    let one = c.level_one_told-first.new in
    let long : Lengths (macroblocks f.size) (planes one.dc one.low two.high) = record { dc = search rules; low = search rules; high = search rules } in
    planes-are f.mode f.size c.get.ensures.sized c.args.samples.now two.dc two.low two.high one.dc one.low long c.undo_level_two-large.ensures.high_after c.level_one_told-first.ensures.low_after

pub returns-then-large-large_dc-clause-value : goal.returns-then-large-large_dc-clause-value
returns-then-large-large_dc-clause-value c =
    let f = c.args.frame in
    let two = c.undo_level_two-large.new in
    let one = c.level_one_told-first.new in
    let long : Lengths (macroblocks f.size) (planes one.dc one.low two.high) = record { dc = search rules; low = search rules; high = search rules } in
    wraps_are f.mode f.size c.get.ensures.sized c.args.samples.now two.dc two.low two.high one.dc one.low long c.undo_level_two-large.ensures.high_after c.level_one_told-first.ensures.low_after
    c.level_two_wraps-second.ensures c.level_one_told-first.ensures.value

pub returns-clause-high_after : goal.returns-clause-high_after
returns-clause-high_after c =
    let f = c.args.frame in
    let two = c.undo_level_two-large.new in
    let one = c.undo_level_one.new in
    let long : Lengths (macroblocks f.size) (planes one.dc one.low two.high) = record { dc = search rules; low = search rules; high = search rules } in
    planes-are f.mode f.size c.get.ensures.sized c.args.samples.now two.dc two.low two.high one.dc one.low long c.undo_level_two-large.ensures.high_after c.undo_level_one.ensures

pub returns-clause-value : goal.returns-clause-value
returns-clause-value c =
    let f = c.args.frame in
    let sized = c.get.ensures.sized in
    let two = c.undo_level_two-large.new in
    let one = c.undo_level_one.new in
    let long : Lengths (macroblocks f.size) (planes one.dc one.low two.high) = record { dc = search rules; low = search rules; high = search rules } in
    let first = or_no (c.undo_level_two-large.result || c.any_large-large_dc.result) c.any_large-large_low.result c.if-large-large_dc.false in
    let none = or_no c.undo_level_two-large.result c.any_large-large_dc.result first.0 in
    wraps_are f.mode f.size sized c.args.samples.now two.dc two.low two.high one.dc one.low long c.undo_level_two-large.ensures.high_after c.undo_level_one.ensures
    (calm f.mode.second (omega (arith, sized.wide)) (omega (arith, sized.tall)) (c.undo_level_two-large.ensures.within none.0))
    (calm f.mode.first sized.wide sized.tall (first-within _ _ (c.any_large-large_dc.ensures.within none.1) (c.any_large-large_low.ensures.within first.1)))
