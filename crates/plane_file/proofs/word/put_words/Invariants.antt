-- The first numbers are written from `at` on, and all other bytes are as they were.
use Rattle.std.proofs.Common.{map}
use Rattle.plane_file.proofs.Parts.{Written}
use Rattle.plane_file.proofs.word.put_words.Given as goal

abbrev pub invariant-loop-i : goal.invariant-loop-i
invariant-loop-i g l = Written (map g.W.Word.as_word l.numbers) l.initial.bytes l.at l.bytes l.i
