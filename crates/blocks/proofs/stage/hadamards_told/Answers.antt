-- What the four calls tell, one after the other.
use mathlib.Core.Path.{◌∙◌}
use Rattle.blocks.proofs.Blocks.{ask_four}
use Rattle.blocks.proofs.stage.hadamards_told.Goals as goal

pub returns-clause-told : goal.returns-clause-told
returns-clause-told c = c.joined.ensures.told ∙ ask_four c.args.tell _ _ _ _ c.hadamard_told-p.ensures.told c.hadamard_told-q.ensures.told c.hadamard_told-r.ensures.told c.hadamard_told-s.ensures.told

pub returns-clause-untold : goal.returns-clause-untold
returns-clause-untold c = c.joined.ensures.told ∙ ask_four c.args.tell _ _ _ _ c.hadamard_told-p.ensures.untold c.hadamard_told-q.ensures.untold c.hadamard_told-r.ensures.untold c.hadamard_told-s.ensures.untold
