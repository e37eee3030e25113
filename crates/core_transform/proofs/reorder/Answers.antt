-- Each row is known as the coefficients at its entries of the table.
use mathlib.Core.Path.{◌∙◌}
use Rattle.lifting.specs.Program.{get}
use Rattle.figures.specs.Block.{flat}
use Rattle.core_transform.proofs.reorder.Goals as goal

pub returns : goal.returns
unfolding get flat
returns c = rw (c.into.ensures ∙ c.pick-p.ensures, c.into-2.ensures ∙ c.pick-q.ensures, c.into-3.ensures ∙ c.pick-r.ensures, c.into-4.ensures ∙ c.pick-s.ensures)
