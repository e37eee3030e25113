-- Coefficient 0 lies in DC, and another in low-pass.
use native.Mathlib.Omega.{arith}
use mir.Syntax.{w32}
use mir.ValLaws.{to_z-of_z}
use Rattle.forward_one_grid.proofs.Numbers.{dc-stored, low-stored, wide-where}
use Rattle.forward_one_grid.proofs.stored.put_number.Goals as goal

pub returns-then-k-eq0 : goal.returns-then-k-eq0
returns-then-k-eq0 c =
    rw (to_z-of_z w32 _ c.ranges.x)
    (dc-stored (wide-where _ _ _ c.requires.t_bound.0) _ _ _ _ _ c.requires.t_bound.0 _ c.if-k-eq0.true (omega (arith, c.requires)))

pub returns : goal.returns
returns c =
    rw (to_z-of_z w32 _ c.ranges.x)
    (low-stored (wide-where _ _ _ c.requires.t_bound.0) _ _ _ _ _ c.requires.t_bound.0 _ c.requires.t_bound.1 c.if-k-eq0.false (omega (arith, c.requires, c.if-k-eq0.false)))
