-- The lane's rows, the first one number on.
use borrow.Author.Rules.{rules}
use Rattle.inverse_two.proofs.Kernel.{block_read}
use Rattle.inverse_two.proofs.four_blocks.block.Goals as goal

pub returns : goal.returns
returns c = block_read _ c.args.zero _ _ _ c.lane.result _ _ _ _ _ (search rules) (search rules) (search rules) (search rules) c.lane.ensures
