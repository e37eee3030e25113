-- The planes have the file's lengths, so that loading has the header's number; what is loaded passes the inverse's checks.
use Rattle.std.proofs.Common.{◌∙◌}
use Rattle.std.proofs.lemmas.Result.{err_from_is_err_and}
use Rattle.picture.specs.Planes.{planes}
use Rattle.plane_file.proofs.Checks.{kept}
use Rattle.decode.specs.Program.{samples_of}
use Rattle.decode.proofs.Decide.{load-number, loaded-settled, refused_not, samples_are}
use Rattle.decode.proofs.transform.Goals as goal

pub returns-in_err-start-clause-number : goal.returns-in_err-start-clause-number
returns-in_err-start-clause-number c =
    let a = c.args in
    let p = err_from_is_err_and c.from_residual.result c.from_residual.ensures.1 in
    rw (p.1, p.2) (c.in_err-start.ensures.number ∙ load-number a.bytes.now (planes a.dc.now a.low.now a.high.now) c.requires.lengths)

pub returns-in_err-start-clause-planes_after : goal.returns-in_err-start-clause-planes_after
returns-in_err-start-clause-planes_after c = loaded-settled c.args.bytes.now c.requires.lengths c.load_planes.ensures.planes_after

pub returns-in_err-start-clause-samples_after : goal.returns-in_err-start-clause-samples_after
returns-in_err-start-clause-samples_after c =
    let a = c.args in
    kept _ (samples_of a.bytes.now) a.samples.now (c.in_err-start.ensures.number ∙ load-number a.bytes.now (planes a.dc.now a.low.now a.high.now) c.requires.lengths)

pub returns-in_err-inverse-clause-number : goal.returns-in_err-inverse-clause-number
returns-in_err-inverse-clause-number c =
    let a = c.args in
    let s = c.in_ok-start.ensures in
    absurd (refused_not a.bytes.now s.said c.get.ensures.value (planes a.dc.now a.low.now a.high.now) c.requires.lengths s.number c.load_planes.ensures.planes_after a.samples.now c.requires.samples_len _ c.in_err-inverse.ensures.number)

pub returns-in_err-inverse-clause-planes_after : goal.returns-in_err-inverse-clause-planes_after
returns-in_err-inverse-clause-planes_after c = loaded-settled c.args.bytes.now c.requires.lengths c.load_planes.ensures.planes_after

pub returns-in_err-inverse-clause-samples_after : goal.returns-in_err-inverse-clause-samples_after
returns-in_err-inverse-clause-samples_after c =
    let a = c.args in
    let s = c.in_ok-start.ensures in
    absurd (refused_not a.bytes.now s.said c.get.ensures.value (planes a.dc.now a.low.now a.high.now) c.requires.lengths s.number c.load_planes.ensures.planes_after a.samples.now c.requires.samples_len _ c.in_err-inverse.ensures.number)

pub returns-clause-number : goal.returns-clause-number
returns-clause-number c =
    let a = c.args in
    c.in_ok-start.ensures.number ∙ load-number a.bytes.now (planes a.dc.now a.low.now a.high.now) c.requires.lengths

pub returns-clause-planes_after : goal.returns-clause-planes_after
returns-clause-planes_after c = loaded-settled c.args.bytes.now c.requires.lengths c.load_planes.ensures.planes_after

pub returns-clause-samples_after : goal.returns-clause-samples_after
returns-clause-samples_after c =
    let a = c.args in
    let s = c.in_ok-start.ensures in
    samples_are a.bytes.now s.said c.get.ensures.value (planes a.dc.now a.low.now a.high.now) c.requires.lengths s.number c.load_planes.ensures.planes_after a.samples.now c.requires.samples_len c.inverse.ensures.number c.inverse.ensures.samples_after
