-- What the four calls tell, one after the other.
use mathlib.Core.Path.{◌∙◌}
use Rattle.blocks.proofs.Blocks.{ask_four}
use Rattle.square_filter.proofs.filter_stages.post_hadamards_told.Goals as goal

pub returns-clause-told : goal.returns-clause-told
returns-clause-told c = c.joined.ensures.told ∙ ask_four c.args.tell _ _ _ _ c.post_hadamard_told.ensures.told c.post_hadamard_told-2.ensures.told c.post_hadamard_told-3.ensures.told c.post_hadamard_told-4.ensures.told
