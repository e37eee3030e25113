-- The checks of the words come first, then that of the length.
use Rattle.std.proofs.lemmas.Result.{err_from_is_err_and}
use Rattle.plane_file.proofs.Calls.{start_refuses, header_too_long, header_done}
use Rattle.plane_file.proofs.header.read_whole.Goals as goal

pub returns-in_err-start-clause-number : goal.returns-in_err-start-clause-number
returns-in_err-start-clause-number c =
    let p = err_from_is_err_and c.from_residual.result c.from_residual.ensures.1 in
    rw (p.1, p.2) (start_refuses c.args.bytes.now _ c.in_err-start.ensures.number)

pub returns-then-bytes-new-clause-number : goal.returns-then-bytes-new-clause-number
returns-then-bytes-new-clause-number c =
    let s = c.in_ok-start.ensures in
    header_too_long c.args.bytes.now s.said c.macroblocks.ensures.value c.new.ensures s.number c.if-bytes-new.true

pub returns-clause-number : goal.returns-clause-number
returns-clause-number c =
    let s = c.in_ok-start.ensures in
    header_done c.args.bytes.now s.said c.macroblocks.ensures.value c.new.ensures s.number c.if-bytes-new.false
