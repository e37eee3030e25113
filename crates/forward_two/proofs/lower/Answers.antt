-- Below the last row of macroblocks there is none.
use Prim.Native.Nat.{◌+◌, ◌<◌}
use native.Mathlib.Omega.{arith}
use Rattle.forward_two.proofs.Joined.{group_inside, none_below}
use Rattle.forward_two.proofs.lower.Goals as goal

pub park-requires-clause-n_in_bounds : goal.park-requires-clause-n_in_bounds
park-requires-clause-n_in_bounds c =
    let a = c.args in
    let m = a.here.now in
    let below : m.r + 1 < m.size.height.0 = grind (arith, m.bottom, m.below, c.if-here-eq4) in
    group_inside m.size (m.r + 1) m.c a.n c.after.result (omega (arith, c.after.ensures, c.requires.dc_value, c.columns.ensures)) below c.requires.n_bound.1 c.requires.lengths

pub returns-else-here-eq4 : goal.returns-else-here-eq4
returns-else-here-eq4 c =
    let a = c.args in
    let m = a.here.now in
    none_below m.size m.r m.c a.n a.strip.now _ (grind (arith, m.bottom, m.below, c.if-here-eq4))
