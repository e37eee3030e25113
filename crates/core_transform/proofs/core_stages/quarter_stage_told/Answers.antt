-- What the four calls tell, one after the other.
use mathlib.Core.Path.{◌∙◌}
use Rattle.blocks.proofs.Blocks.{ask_four}
use Rattle.core_transform.proofs.core_stages.quarter_stage_told.Goals as goal

pub returns-clause-told : goal.returns-clause-told
returns-clause-told c = c.joined.ensures.told ∙ ask_four c.args.tell _ _ _ _ c.hadamard_told.ensures.told c.odd_told.ensures.told c.odd_told-2.ensures.told c.odd_odd_told.ensures.told
