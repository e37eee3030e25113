-- The walk ends at the first use that wraps.
use Prim.Native.Nat.{◌+◌, ◌*◌}
use mathlib.Core.Path.{refl, sym, ◌∙◌}
use Rattle.std.proofs.Common.{rules}
use Rattle.lifting.specs.Wraps.{undo_wraps}
use Rattle.lifting.specs.AnyUse.{any_use}
use Rattle.lifting.proofs.AnyUse.{any_use_each}
use Rattle.transform.proofs.Walks.{any_below}
use Rattle.forward_one_filters.specs.Edges.{filter_of, line, use_at}
use Rattle.forward_one_filters.proofs.told.line_wraps.Goals as goal

pub returns : goal.returns
unfolding line
returns c =
    let grid = c.args.level.now in
    let uses = c.args.uses in
    any_below uses.n (λ i. any_use undo_wraps (filter_of grid.size (use_at uses (uses.from + uses.pace * i))) grid.numbers) refl refl c.any.ensures.ran
    (λ x q k. search rules) (λ x b q l k. search rules)
    ∙ sym (any_use_each undo_wraps uses.n _ grid.numbers)
