-- Figure 4.12 is the shared lines with its roundings.
use mathlib.Core.Path.{◌∙◌, ap}
use mathlib.Core.Bool.{◌&&◌}
use Rattle.lifting.specs.Program.{undo}
use Rattle.lifting.specs.Wraps.{undo_wraps}
use Rattle.figures.specs.Block.{list}
use Rattle.figures.proofs.Figures.{post_odd_odd_pieces}
use Rattle.overlap_operators.proofs.undo_post_odd_odd_told.Goals as goal

pub returns : goal.returns
returns c =
    let e = c.before.args in
    let o = c.undo_odd_odd_rounded_told.ensures in
    record {
      done = o.done ∙ ap (λ p. undo p (list e.v)) post_odd_odd_pieces;
      told = o.told ∙ ap (λ p. e.tell && undo_wraps p (list e.v)) post_odd_odd_pieces;
    }
