-- The window's numbers are those at the use's places.
use Rattle.lifting.specs.Program.{SquareFilter}
use Rattle.lifting.specs.Wraps.{undo_wraps}
use Rattle.lifting.proofs.AnyUse.{use_told}
use Rattle.figures.specs.Figures.{square_filter}
use Rattle.transform.specs.Level.{square_filter_at}
use Rattle.forward_one_filters.proofs.told.window_wraps.Goals as goal

pub returns : goal.returns
unfolding square_filter_at
returns c = use_told undo_wraps SquareFilter square_filter _ _ c.undo_square_filter_wraps.ensures c.get_window.ensures
