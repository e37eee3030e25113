-- The claim at the sides of the two levels.
use Prim.Native.Nat.{◌*◌}
use native.Mathlib.Omega.{arith}
use Rattle.transform.proofs.FiltersApart.{filters_apart}
use Rattle.corollaries.specs.Filters.{OneWindowAtMost}

pub one-window-at-most : OneWindowAtMost
one-window-at-most W H a b c d i = (filters_apart W H a c i, filters_apart (4 * W) (4 * H) (omega (arith, a)) (omega (arith, c)) i)
