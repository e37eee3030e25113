-- A refusal's line is short; the rows are those of the front of the memory, which holds the file's samples.
use Rattle.std.proofs.Common.{sym, ap, ◌∙◌, length, arith}
use lib.Seq.{length-take-le}
use Rattle.decimal.specs.Text.{refused_line, over}
use Rattle.decimal.proofs.Room.{count_fits, written-fits}
use Rattle.decode.proofs.Pictures.{refused-length, refused-shown, all-few, samples-row, front-is, rows-shown}
use Rattle.decode.proofs.text.show.Goals as goal

-- ---- a refusal

pub returns-in-Err-clause-value : goal.returns-in-Err-clause-value
returns-in-Err-clause-value c =
    let line = refused_line c.into.result in
    let short = refused-length c.into.result c.into.type_inv in
    let size = c.write_refused.ensures.value ∙ count_fits line (length c.args.out.now) (omega (arith, short, c.requires)) in
    let e = ap refused_line c.into.ensures ∙ refused-shown c.args.bytes.now _ c.in-Err.ensures.number in
    (size ∙ ap length e, omega (arith, size, short))

pub returns-in-Err-clause-out_after : goal.returns-in-Err-clause-out_after
returns-in-Err-clause-out_after c =
    let line = refused_line c.into.result in
    let short = refused-length c.into.result c.into.type_inv in
    let e = ap refused_line c.into.ensures ∙ refused-shown c.args.bytes.now _ c.in-Err.ensures.number in
    c.write_refused.ensures.out_after ∙ written-fits line c.args.out.now (omega (arith, short, c.requires)) ∙ ap (over c.args.out.now 0) e

-- ---- a picture

pub slice_bounds-samples-end : goal.slice_bounds-samples-end
slice_bounds-samples-end c =
    let f = c.in-Ok.ensures in
    let s = c.samples-side.ensures in
    omega (arith, all-few c.args.bytes.now f.said f.number s.sized s.width s.height, c.decode.array_long4)

pub slice_bounds-write_rows-end : goal.slice_bounds-write_rows-end
slice_bounds-write_rows-end c =
    let f = c.in-Ok.ensures in
    let s = c.samples-side.ensures in
    sym (length-take-le _ _ (omega (arith, all-few c.args.bytes.now f.said f.number s.sized s.width s.height, c.decode.array_long4)))

pub write_rows-requires-clause-row : goal.write_rows-requires-clause-row
write_rows-requires-clause-row c =
    let f = c.in-Ok.ensures in
    let s = c.samples-side.ensures in
    rw (front-is c.args.bytes.now f.said f.number s.sized s.width s.height _ f.samples_after) (samples-row c.args.bytes.now f.said f.number s.sized s.width s.height)

pub write_rows-requires-clause-w_nonzero : goal.write_rows-requires-clause-w_nonzero
write_rows-requires-clause-w_nonzero c =
    let f = c.in-Ok.ensures in
    let s = c.samples-side.ensures in
    (omega (arith, s.width, s.sized.wide), omega (arith, all-few c.args.bytes.now f.said f.number s.sized s.width s.height, c.requires))

pub returns-in-Ok-clause-value : goal.returns-in-Ok-clause-value
returns-in-Ok-clause-value c =
    let bytes = c.args.bytes.now in
    let f = c.in-Ok.ensures in
    let s = c.samples-side.ensures in
    let q = c.write_rows.ensures.value in
    (rw (front-is bytes f.said f.number s.sized s.width s.height _ f.samples_after) at q.0 ∙ ap length (rows-shown bytes f.said f.number s.sized s.width s.height), omega (arith, q.1, all-few bytes f.said f.number s.sized s.width s.height))

pub returns-in-Ok-clause-out_after : goal.returns-in-Ok-clause-out_after
returns-in-Ok-clause-out_after c =
    let bytes = c.args.bytes.now in
    let f = c.in-Ok.ensures in
    let s = c.samples-side.ensures in
    rw (front-is bytes f.said f.number s.sized s.width s.height _ f.samples_after) at c.write_rows.ensures.out_after
    ∙ ap (over c.args.out.now 0) (rows-shown bytes f.said f.number s.sized s.width s.height)
