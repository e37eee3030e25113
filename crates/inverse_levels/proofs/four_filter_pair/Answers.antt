-- One after the other.
use Rattle.inverse_levels.proofs.Loops.{then_more}
use Rattle.inverse_levels.proofs.four_filter_pair.Goals as goal

pub returns : goal.returns
returns c = then_more _ _ _ c.four_filter_at.ensures c.four_filter_at-2.ensures
