-- The entry is a place of the other table, which sends it back.
use borrow.Author.Rules.{rules}
use Rattle.figures.specs.Figures.{inverse_reorder, forward_reorder}
use Rattle.core_transform.proofs.Back.{back}
use Rattle.core_transform.proofs.tables.forward_after_inverse.Goals as goal

pub offset_bounds-k-2 : goal.offset_bounds-k-2
offset_bounds-k-2 c = let b = back inverse_reorder forward_reorder tt c.args.k c.requires in search rules

pub bounds-k-2 : goal.bounds-k-2
bounds-k-2 c = (back inverse_reorder forward_reorder tt c.args.k c.requires).inside

pub returns : goal.returns
returns c = (back inverse_reorder forward_reorder tt c.args.k c.requires).same
