-- The first number for which too little is left, or none.
use Rattle.std.proofs.Common.{sym, get_or, pos, arith, rules, w32}
use mir.ValLaws.{to_z-of_z}
use Rattle.decimal.proofs.Rows.{bytes_at, bytes_end, row_within, row_over}
use Rattle.decimal.proofs.row_fits.Goals as goal

pub returns-in_default : goal.returns-in_default
returns-in_default c =
    let more = bytes_at c.args.numbers.now c.loop-x.x-index (omega arith) in
    let long = rw (to_z-of_z w32 (get_or c.args.numbers.now c.loop-x.x-index (pos 0)) (search rules)) at c.decimal_len.ensures.value in
    sym (row_over c.args.numbers.now c.args.room (omega (arith, c.in_default.ensures, long, more)))

pub returns : goal.returns
returns c =
    row_within c.args.numbers.now c.args.room (omega (arith, bytes_end c.args.numbers.now c.loop-x.x-index (omega arith)))
