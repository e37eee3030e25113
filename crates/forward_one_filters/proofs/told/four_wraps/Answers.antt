-- The four numbers are those at the use's places.
use Rattle.lifting.specs.Program.{FourFilter}
use Rattle.lifting.specs.Wraps.{undo_wraps}
use Rattle.lifting.proofs.AnyUse.{use_told}
use Rattle.figures.specs.Figures.{four_filter}
use Rattle.forward_one_filters.specs.Edges.{filter_of}
use Rattle.forward_one_filters.proofs.told.four_wraps.Goals as goal

pub returns : goal.returns
unfolding filter_of
returns c = use_told undo_wraps FourFilter four_filter _ _ c.unfiltered_wraps.ensures c.get_pairs.ensures
