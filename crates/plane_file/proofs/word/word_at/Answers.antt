-- Four bytes joined are the word, by its definition.
use Rattle.std.proofs.Common.{arith}
use Rattle.plane_file.specs.Words.{word_at}
use Rattle.plane_file.proofs.word.word_at.Goals as goal

pub returns : goal.returns
unfolding word_at
returns c = omega (arith, c.from_le_bytes.ensures)
