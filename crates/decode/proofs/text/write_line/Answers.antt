-- The line has room, so that it is written whole.
use Rattle.std.proofs.Common.{arith}
use Rattle.decode.proofs.Lines.{line-length, line-count, line_laid}
use Rattle.decode.proofs.text.write_line.Goals as goal

pub returns-clause-value : goal.returns-clause-value
returns-clause-value c =
    let a = c.args in
    let p = c.requires.w_nonzero in
    let size = line-count a.numbers.now a.out.now a.from a.w a.at c.requires.row p.0 p.1 p.2 c.write_row.ensures.value in
    (size, omega (arith, size, line-length a.numbers.now a.out.now a.from a.w a.at c.requires.row p.0 p.1 p.2))

pub returns-clause-out_after : goal.returns-clause-out_after
returns-clause-out_after c =
    let a = c.args in
    let p = c.requires.w_nonzero in
    line_laid a.numbers.now a.out.now a.from a.w a.at c.requires.row p.0 p.1 p.2 c.write_row.ensures.out_after
