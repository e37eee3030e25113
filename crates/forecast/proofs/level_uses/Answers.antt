-- What is computed are the counts of a level, which are its uses.
use mathlib.Core.Path.{sym}
use mathlib.Core.Bool.{true, false}
use Rattle.forecast.proofs.Levels.{level_claim}
use Rattle.forecast.proofs.level_uses.Goals as goal

pub returns-then-filtered-clause-value : goal.returns-then-filtered-clause-value
returns-then-filtered-clause-value c = rw c.if-filtered.true (sym (level_claim true c.args.p c.args.q))

pub returns-clause-value : goal.returns-clause-value
returns-clause-value c = rw c.if-filtered.false (sym (level_claim false c.args.p c.args.q))
