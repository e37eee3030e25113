-- What is left of the room differs from the bytes of the numbers that are left as the room does from those of all.
use Rattle.std.proofs.Common.{◌≡◌, ◌+◌, drop}
use Rattle.decimal.proofs.Rows.{bytes}
use Rattle.decimal.proofs.row_fits.Given as goal

abbrev pub invariant-loop-x : goal.invariant-loop-x
invariant-loop-x l = l.room + bytes (drop l.x-index l.numbers) ≡ l.left + bytes l.numbers
