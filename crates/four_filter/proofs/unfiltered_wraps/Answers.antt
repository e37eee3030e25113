-- What the filter tells of the four numbers that are read.
use mathlib.Core.Path.{◌∙◌, ap}
use Rattle.lifting.specs.Wraps.{undo_wraps}
use Rattle.lifting.proofs.Traces.{four_read}
use Rattle.figures.specs.Figures.{four_filter}
use Rattle.four_filter.proofs.unfiltered_wraps.Goals as goal

pub returns : goal.returns
returns c5 =
    let c4 = c5.before in
    let c3 = c4.before in
    let c2 = c3.before in
    let c1 = c2.before in
    c5.undo_four_filter_told.ensures.told
    ∙ ap (undo_wraps four_filter) (four_read (record { sfits = c1.undo_four_filter_told-arg-1.given }) (record { sfits = c2.undo_four_filter_told-arg-2-1.given }) (record { sfits = c3.undo_four_filter_told-arg-3-1.given }) (record { sfits = c4.undo_four_filter_told-arg-4-1.given }))
