-- Row k div 4, column k mod 4.
use mathlib.Core.Path.{◌∙◌}
use Rattle.lifting.proofs.Bits.{back}
use Rattle.blocks.proofs.Blocks.{at-flat}
use Rattle.blocks.proofs.at.Goals as goal

pub returns : goal.returns
returns c = back c.result-1.given ∙ at-flat _ _ c.before.requires
