-- Figure 4.12 is the shared lines with its roundings.
use mathlib.Core.Path.{◌∙◌, ap}
use mathlib.Core.Bool.{◌&&◌}
use Rattle.lifting.specs.Program.{run}
use Rattle.lifting.specs.Wraps.{wraps}
use Rattle.figures.specs.Block.{list}
use Rattle.figures.proofs.Figures.{post_odd_odd_pieces}
use Rattle.overlap_operators.proofs.post_odd_odd_told.Goals as goal

pub returns : goal.returns
returns c =
    let e = c.before.args in
    let o = c.odd_odd_rounded_told.ensures in
    record {
      done = o.done ∙ ap (λ p. run p (list e.v)) post_odd_odd_pieces;
      told = o.told ∙ ap (λ p. e.tell && wraps p (list e.v)) post_odd_odd_pieces;
    }
