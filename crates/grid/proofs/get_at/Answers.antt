-- What is read is what stands there.
use borrow.Author.Rules.{rules}
use Rattle.lifting.specs.Program.{get}
use Rattle.grid.proofs.get_at.Goals as goal

pub returns : goal.returns
unfolding get
returns c = search rules
