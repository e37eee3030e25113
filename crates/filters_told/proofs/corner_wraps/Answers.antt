-- The four numbers, judged.
use Rattle.lifting.specs.Program.{FourFilter}
use Rattle.lifting.specs.Wraps.{undo_wraps}
use Rattle.lifting.proofs.AnyUse.{use_told}
use Rattle.figures.specs.Figures.{four_filter}
use Rattle.transform.specs.Level.{corner, corner_filter_at}
use Rattle.filters_told.proofs.corner_wraps.Goals as goal

pub returns : goal.returns
unfolding corner_filter_at
returns c =
    let a = c.args in
    use_told undo_wraps FourFilter four_filter (corner a.w a.at) a.grid.now c.unfiltered_wraps.ensures c.get_corner.ensures
