-- One store after another.
use borrow.Author.Rules.{rules}
use Rattle.lifting.specs.Program.{put}
use Rattle.grid.proofs.put_at.Goals as goal

pub returns : goal.returns
unfolding put
returns c = search rules
