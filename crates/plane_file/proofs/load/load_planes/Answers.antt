-- The header's checks come first, then those of the planes; what they let through is read plane by plane.
use Rattle.std.proofs.Common.{◌∙◌}
use Rattle.std.proofs.lemmas.Result.{err_from_is_err_and}
use Rattle.picture.specs.Planes.{planes}
use Rattle.plane_file.specs.Layout.{planes_in}
use Rattle.plane_file.specs.Numbers.{count_in}
use Rattle.plane_file.proofs.Checks.{kept, changed}
use Rattle.plane_file.proofs.Written.{planes_read}
use Rattle.plane_file.proofs.Calls.{counted, placed, header_refuses, load_by_planes, load_lengths, planes_inside}
use Rattle.plane_file.proofs.load.load_planes.Goals as goal

pub returns-in_err-start-clause-number : goal.returns-in_err-start-clause-number
returns-in_err-start-clause-number c =
    let a = c.args in
    let p = err_from_is_err_and c.from_residual.result c.from_residual.ensures.1 in
    rw (p.1, p.2) (header_refuses a.bytes.now (planes a.dc.now a.low.now a.high.now) _ c.in_err-start.ensures.number)

pub returns-in_err-start-clause-planes_after : goal.returns-in_err-start-clause-planes_after
returns-in_err-start-clause-planes_after c =
    let a = c.args in
    let was = planes a.dc.now a.low.now a.high.now in
    kept _ (planes_in a.bytes.now (count_in a.bytes.now)) was (header_refuses a.bytes.now was _ c.in_err-start.ensures.number)

pub returns-in_err-check-clause-number : goal.returns-in_err-check-clause-number
returns-in_err-check-clause-number c =
    let a = c.args in
    let p = err_from_is_err_and c.from_residual-in_err-check.result c.from_residual-in_err-check.ensures.1 in
    let s = c.in_ok-start.ensures in
    rw (p.1, p.2) (load_by_planes a.bytes.now (planes a.dc.now a.low.now a.high.now) s.number (counted a.bytes.now s.said c.macroblocks-n.ensures.value) c.in_err-check.ensures)

pub returns-in_err-check-clause-planes_after : goal.returns-in_err-check-clause-planes_after
returns-in_err-check-clause-planes_after c =
    let a = c.args in
    let was = planes a.dc.now a.low.now a.high.now in
    let s = c.in_ok-start.ensures in
    kept _ (planes_in a.bytes.now (count_in a.bytes.now)) was (load_by_planes a.bytes.now was s.number (counted a.bytes.now s.said c.macroblocks-n.ensures.value) c.in_err-check.ensures)

-- the planes are as long as the file's, and lie within it
pub load_plane-requires : goal.load_plane-requires
load_plane-requires c =
    let a = c.args in
    let s = c.in_ok-start.ensures in
    let n = c.macroblocks-n.ensures.value in
    (planes_inside a.bytes.now (planes a.dc.now a.low.now a.high.now) s.number (counted a.bytes.now s.said n) c.in_ok-check.ensures (placed a.bytes.now s.said n c.new-starts.ensures)).dc

pub load_plane-requires-2 : goal.load_plane-requires-2
load_plane-requires-2 c =
    let a = c.args in
    let s = c.in_ok-start.ensures in
    let n = c.macroblocks-n.ensures.value in
    (planes_inside a.bytes.now (planes a.dc.now a.low.now a.high.now) s.number (counted a.bytes.now s.said n) c.in_ok-check.ensures (placed a.bytes.now s.said n c.new-starts.ensures)).low

pub load_plane-requires-3 : goal.load_plane-requires-3
load_plane-requires-3 c =
    let a = c.args in
    let s = c.in_ok-start.ensures in
    let n = c.macroblocks-n.ensures.value in
    (planes_inside a.bytes.now (planes a.dc.now a.low.now a.high.now) s.number (counted a.bytes.now s.said n) c.in_ok-check.ensures (placed a.bytes.now s.said n c.new-starts.ensures)).high

pub returns-clause-number : goal.returns-clause-number
returns-clause-number c =
    let a = c.args in
    let s = c.in_ok-start.ensures in
    load_by_planes a.bytes.now (planes a.dc.now a.low.now a.high.now) s.number (counted a.bytes.now s.said c.macroblocks-n.ensures.value) c.in_ok-check.ensures

pub returns-clause-planes_after : goal.returns-clause-planes_after
returns-clause-planes_after c =
    let a = c.args in
    let was = planes a.dc.now a.low.now a.high.now in
    let s = c.in_ok-start.ensures in
    let n = counted a.bytes.now s.said c.macroblocks-n.ensures.value in
    planes_read a.bytes.now (count_in a.bytes.now) was (load_lengths a.bytes.now was s.number n c.in_ok-check.ensures) (placed a.bytes.now s.said c.macroblocks-n.ensures.value c.new-starts.ensures)
    c.load_plane.ensures c.load_plane-2.ensures c.load_plane-3.ensures
    ∙ changed (planes_in a.bytes.now (count_in a.bytes.now)) was (load_by_planes a.bytes.now was s.number n c.in_ok-check.ensures)
