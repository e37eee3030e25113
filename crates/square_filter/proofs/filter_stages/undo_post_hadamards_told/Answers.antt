-- What the four calls tell, one after the other.
use mathlib.Core.Path.{◌∙◌}
use Rattle.blocks.proofs.Blocks.{ask_four}
use Rattle.square_filter.proofs.filter_stages.undo_post_hadamards_told.Goals as goal

pub returns-clause-told : goal.returns-clause-told
returns-clause-told c = c.joined.ensures.told ∙ ask_four c.args.tell _ _ _ _ c.undo_post_hadamard_told-p.ensures.told c.undo_post_hadamard_told-q.ensures.told c.undo_post_hadamard_told-r.ensures.told c.undo_post_hadamard_told-s.ensures.told
