-- The checks of mode and size come first, then those of the planes and of the length.
use Rattle.std.proofs.Common.{ap, ◌∙◌}
use Rattle.std.proofs.lemmas.Result.{err_from_is_err_and}
use Rattle.picture.specs.declared.refusals.Refusal.TheVariants.{FileLength}
use Rattle.picture.specs.declared.size.Size.{Size}
use Rattle.plane_file.specs.Layout.{file}
use Rattle.plane_file.proofs.Checks.{kept, changed}
use Rattle.plane_file.proofs.Calls.{shape_refuses, planes_refuse, length_refuses, saves, save_lengths, save_total}
use Rattle.plane_file.proofs.save.save.Goals as goal

pub returns-in_err-frame-clause-number : goal.returns-in_err-frame-clause-number
returns-in_err-frame-clause-number c =
    let a = c.args in
    let p = err_from_is_err_and c.from_residual.result c.from_residual.ensures.1 in
    rw (p.1, p.2) (shape_refuses a.mode a.size a.planes.now a.bytes.now _ c.in_err-frame.ensures.number)

pub returns-in_err-frame-clause-bytes_after : goal.returns-in_err-frame-clause-bytes_after
returns-in_err-frame-clause-bytes_after c =
    let a = c.args in
    kept _ (file a.mode a.size a.planes.now) a.bytes.now (shape_refuses a.mode a.size a.planes.now a.bytes.now _ c.in_err-frame.ensures.number)

pub returns-in_err-check-clause-number : goal.returns-in_err-check-clause-number
returns-in_err-check-clause-number c =
    let a = c.args in
    let p = err_from_is_err_and c.from_residual-in_err-check.result c.from_residual-in_err-check.ensures.1 in
    let f = c.in_ok-frame.ensures in
    rw (p.1, p.2) (planes_refuse a.mode a.size a.planes.now a.bytes.now f.number f.size c.macroblocks-n.ensures.value _ c.in_err-check.ensures)

pub returns-in_err-check-clause-bytes_after : goal.returns-in_err-check-clause-bytes_after
returns-in_err-check-clause-bytes_after c =
    let a = c.args in
    let f = c.in_ok-frame.ensures in
    kept _ (file a.mode a.size a.planes.now) a.bytes.now (planes_refuse a.mode a.size a.planes.now a.bytes.now f.number f.size c.macroblocks-n.ensures.value _ c.in_err-check.ensures)

pub returns-then-bytes-new-clause-number : goal.returns-then-bytes-new-clause-number
returns-then-bytes-new-clause-number c =
    let a = c.args in
    let f = c.in_ok-frame.ensures in
    length_refuses a.mode a.size a.planes.now a.bytes.now f.number f.size c.macroblocks-n.ensures.value c.in_ok-check.ensures c.new-2.ensures c.if-bytes-new.true

pub returns-then-bytes-new-clause-bytes_after : goal.returns-then-bytes-new-clause-bytes_after
returns-then-bytes-new-clause-bytes_after c =
    let a = c.args in
    let f = c.in_ok-frame.ensures in
    kept FileLength (file a.mode a.size a.planes.now) a.bytes.now
    (length_refuses a.mode a.size a.planes.now a.bytes.now f.number f.size c.macroblocks-n.ensures.value c.in_ok-check.ensures c.new-2.ensures c.if-bytes-new.true)

pub save_file-requires : goal.save_file-requires
save_file-requires c =
    let a = c.args in
    let f = c.in_ok-frame.ensures in
    record {
      lengths = save_lengths a.mode a.size a.planes.now a.bytes.now f.number f.size c.macroblocks-n.ensures.value c.in_ok-check.ensures c.new-2.ensures;
      bytes_len = save_total a.mode a.size a.planes.now a.bytes.now f.number f.size c.macroblocks-n.ensures.value c.in_ok-check.ensures c.new-2.ensures c.if-bytes-new.false;
    }

pub returns-clause-number : goal.returns-clause-number
returns-clause-number c =
    let a = c.args in
    let f = c.in_ok-frame.ensures in
    saves a.mode a.size a.planes.now a.bytes.now f.number f.size c.macroblocks-n.ensures.value c.in_ok-check.ensures c.new-2.ensures c.if-bytes-new.false

pub returns-clause-bytes_after : goal.returns-clause-bytes_after
returns-clause-bytes_after c =
    let a = c.args in
    let f = c.in_ok-frame.ensures in
    c.save_file.ensures ∙ ap (λ (s : Size). file a.mode s a.planes.now) f.size
    ∙ changed (file a.mode a.size a.planes.now) a.bytes.now
    (saves a.mode a.size a.planes.now a.bytes.now f.number f.size c.macroblocks-n.ensures.value c.in_ok-check.ensures c.new-2.ensures c.if-bytes-new.false)
