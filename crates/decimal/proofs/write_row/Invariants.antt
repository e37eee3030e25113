-- The first numbers are written.
use Rattle.decimal.proofs.Progress.{SoFar}
use Rattle.decimal.proofs.write_row.Given as goal

abbrev pub invariant-loop-i : goal.invariant-loop-i
invariant-loop-i l = SoFar l.numbers l.initial.out l.out l.at l.i
