-- What the words and the count let through is transformed at the front of the memory; behind it nothing changes.
use Rattle.std.proofs.Common.{◌*◌, ◌∙◌, take, arith}
use Rattle.std.proofs.lemmas.Result.{err_from_is_err_and}
use Rattle.picture.specs.Planes.{Planes, planes}
use Rattle.plane_file.specs.Numbers.{count_in, header_number}
use Rattle.plane_file.proofs.Calls.{counted}
use Rattle.decode.specs.Program.{planes_of, samples_of}
use Rattle.decode.proofs.Decide.{small_refuses, program_number_lem}
use Rattle.decode.proofs.Front.{left_front, left_whole, plane_of}
use Rattle.decode.proofs.decode.Goals as goal

pub returns-in_err-start-clause-number : goal.returns-in_err-start-clause-number
returns-in_err-start-clause-number c =
    let p = err_from_is_err_and c.from_residual.result c.from_residual.ensures.1 in
    rw (p.1, p.2) (small_refuses c.args.bytes.now _ c.in_err-start.ensures.number)

pub returns-in_err-start-clause-dc_after : goal.returns-in_err-start-clause-dc_after
returns-in_err-start-clause-dc_after c =
    let bytes = c.args.bytes.now in
    left_whole bytes _ (small_refuses bytes _ c.in_err-start.ensures.number) (count_in bytes) (planes_of bytes).dc c.args.dc.now

pub returns-in_err-start-clause-low_after : goal.returns-in_err-start-clause-low_after
returns-in_err-start-clause-low_after c =
    let bytes = c.args.bytes.now in
    left_whole bytes _ (small_refuses bytes _ c.in_err-start.ensures.number) (15 * count_in bytes) (planes_of bytes).low c.args.low.now

pub returns-in_err-start-clause-high_after : goal.returns-in_err-start-clause-high_after
returns-in_err-start-clause-high_after c =
    let bytes = c.args.bytes.now in
    left_whole bytes _ (small_refuses bytes _ c.in_err-start.ensures.number) (240 * count_in bytes) (planes_of bytes).high c.args.high.now

pub returns-in_err-start-clause-samples_after : goal.returns-in_err-start-clause-samples_after
returns-in_err-start-clause-samples_after c =
    let bytes = c.args.bytes.now in
    left_whole bytes _ (small_refuses bytes _ c.in_err-start.ensures.number) (256 * count_in bytes) (samples_of bytes) c.args.samples.now

pub returns-clause-number : goal.returns-clause-number
returns-clause-number c = c.transform.ensures.number ∙ program_number_lem c.args.bytes.now c.in_ok-start.ensures.number

pub returns-clause-dc_after : goal.returns-clause-dc_after
returns-clause-dc_after c =
    let a = c.args in
    let bytes = a.bytes.now in
    let e = counted bytes c.in_ok-start.ensures.said c.macroblocks-n.ensures.value in
    left_front bytes (header_number bytes) (count_in bytes) _ (planes_of bytes).dc a.dc.now (program_number_lem bytes c.in_ok-start.ensures.number) (omega (arith, e, c.numbers-count.ensures.value))
    (plane_of (λ (x : Planes). x.dc) (header_number bytes) (planes_of bytes) (planes (take c.numbers-count.result a.dc.now) (take c.numbers-lows.result a.low.now) (take c.numbers-highs.result a.high.now)) c.transform.ensures.planes_after)

pub returns-clause-low_after : goal.returns-clause-low_after
returns-clause-low_after c =
    let a = c.args in
    let bytes = a.bytes.now in
    let e = counted bytes c.in_ok-start.ensures.said c.macroblocks-n.ensures.value in
    left_front bytes (header_number bytes) (15 * count_in bytes) _ (planes_of bytes).low a.low.now (program_number_lem bytes c.in_ok-start.ensures.number) (omega (arith, e, c.numbers-lows.ensures.value))
    (plane_of (λ (x : Planes). x.low) (header_number bytes) (planes_of bytes) (planes (take c.numbers-count.result a.dc.now) (take c.numbers-lows.result a.low.now) (take c.numbers-highs.result a.high.now)) c.transform.ensures.planes_after)

pub returns-clause-high_after : goal.returns-clause-high_after
returns-clause-high_after c =
    let a = c.args in
    let bytes = a.bytes.now in
    let e = counted bytes c.in_ok-start.ensures.said c.macroblocks-n.ensures.value in
    left_front bytes (header_number bytes) (240 * count_in bytes) _ (planes_of bytes).high a.high.now (program_number_lem bytes c.in_ok-start.ensures.number) (omega (arith, e, c.numbers-highs.ensures.value))
    (plane_of (λ (x : Planes). x.high) (header_number bytes) (planes_of bytes) (planes (take c.numbers-count.result a.dc.now) (take c.numbers-lows.result a.low.now) (take c.numbers-highs.result a.high.now)) c.transform.ensures.planes_after)

pub returns-clause-samples_after : goal.returns-clause-samples_after
returns-clause-samples_after c =
    let a = c.args in
    let bytes = a.bytes.now in
    let e = counted bytes c.in_ok-start.ensures.said c.macroblocks-n.ensures.value in
    left_front bytes (header_number bytes) (256 * count_in bytes) _ (samples_of bytes) a.samples.now (program_number_lem bytes c.in_ok-start.ensures.number) (omega (arith, e, c.numbers-all.ensures.value)) c.transform.ensures.samples_after
