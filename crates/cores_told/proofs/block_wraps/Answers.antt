-- Judged, or of numbers with which a core does not wrap.
use mathlib.Core.Path.{sym, ◌∙◌}
use Rattle.lifting.proofs.Bits.{back}
use Rattle.lifting.proofs.Tests.{or_no}
use Rattle.cores_told.proofs.Blocks.{block-calm}
use Rattle.cores_told.proofs.block_wraps.Goals as goal

pub returns-else-large : goal.returns-else-large
returns-else-large c =
    let a = c.args in
    let calm = or_no c.above.result c.some_above.result c.if-large.false in
    c.if-large.false ∙ sym (block-calm a.zero a.rest.now a.from (rw (back c.ranges.zero.sfits) at (c.above.ensures calm.0)) (c.some_above.ensures.at_most calm.1))
