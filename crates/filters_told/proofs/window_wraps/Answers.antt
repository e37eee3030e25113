-- Judged, or of numbers with which a window has not wrapped.
use mathlib.Core.Path.{sym, ◌∙◌}
use Rattle.lifting.specs.Program.{SquareFilter}
use Rattle.lifting.specs.Wraps.{undo_wraps}
use Rattle.lifting.proofs.AnyUse.{use_told}
use Rattle.lifting.proofs.Tests.{or_no}
use Rattle.figures.specs.Figures.{square_filter}
use Rattle.transform.specs.Level.{square, square_filter_at}
use Rattle.filters_told.proofs.Windows.{window-calm}
use Rattle.filters_told.proofs.window_wraps.Goals as goal

pub returns-then-large : goal.returns-then-large
unfolding square_filter_at
returns-then-large c = use_told undo_wraps SquareFilter square_filter (square c.args.w c.args.at) c.args.grid.now c.undo_square_filter_wraps.ensures c.get_square.ensures

pub returns-else-large : goal.returns-else-large
returns-else-large c =
    let d = or_no _ c.some_above-4.result c.if-large.false in
    let e = or_no _ c.some_above-3.result d.0 in
    let f = or_no c.some_above.result c.some_above-2.result e.0 in
    c.if-large.false ∙ sym (window-calm c.args.grid.now c.args.w c.args.at (c.some_above.ensures.at_most f.0) (c.some_above-2.ensures.at_most f.1) (c.some_above-3.ensures.at_most e.1) (c.some_above-4.ensures.at_most d.1))
