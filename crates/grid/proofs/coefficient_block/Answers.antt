-- The sixteen numbers, row by row.
use borrow.Author.Rules.{rules}
use Rattle.grid.proofs.Squares.{square-rows}
use Rattle.grid.proofs.coefficient_block.Goals as goal

pub returns : goal.returns
returns c = square-rows c.args.zero c.args.rest.now c.args.from _ _ _ (search rules) (search rules) (search rules) (search rules) c.get_four.ensures c.get_four-2.ensures c.get_four-3.ensures
