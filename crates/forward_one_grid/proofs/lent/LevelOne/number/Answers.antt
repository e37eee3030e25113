-- Coefficient 0 lies in DC, and another in low-pass.
use mathlib.Core.Path.{◌∙◌}
use Rattle.lifting.proofs.Bits.{back}
use Rattle.forward_one_grid.proofs.Numbers.{dc-read, low_read, wide-where}
use Rattle.forward_one_grid.proofs.lent.LevelOne.number.Goals as goal

pub returns-then-k-eq0 : goal.returns-then-k-eq0
returns-then-k-eq0 c =
    let wide = wide-where _ c.self.inside.size.height.0 _ (rw (← c.self.view_is) at c.requires.0) in
    rw (← c.self.view_is) (back c.result-1.given ∙ dc-read wide c.self.inside.size.height.0 _ _ _ _ (rw (← c.self.view_is) at c.requires.0) c.if-k-eq0.true)

pub returns : goal.returns
returns c =
    let wide = wide-where _ c.self.inside.size.height.0 _ (rw (← c.self.view_is) at c.requires.0) in
    rw (← c.self.view_is) (back c.result-2-1.given ∙ low_read wide c.self.inside.size.height.0 _ _ _ _ (rw (← c.self.view_is) at c.requires.0) c.requires.1 c.if-k-eq0.false)
