-- Four windows after four: the last four too, where all that are left go together.
use Prim.Native.Nat.{◌+◌, ◌*◌}
use native.Mathlib.Omega.{arith}
use Rattle.forward_two_edges.proofs.Strips.{holds_kept, holds_beside, holds_as}
use Rattle.forward_two_windows.proofs.window_row.Goals as goal

pub returns-2-clause-holds : goal.returns-2-clause-holds
returns-2-clause-holds c =
    let a = c.args in
    let r = a.here.now.r in
    let z = a.here.now.c in
    let v = c.loop-l.invariant in
    let e = c.windows_at.ensures in
    let t = 4 * a.v + 2 in
    let b = 4 * a.v + 6 in
    let m = 4 * c.loop-l.l + 2 in
    let k = 4 * a.n + 2 in
    holds_beside r z t b 2 m k
    (holds_kept r z t b 2 m t b m (4 * c.loop-l.l + 18) (omega (arith, c.requires.v_bound)) (λ y x i j n o p q u w. absurd (omega arith)) (v.1 m (omega arith) (omega arith)) e.kept)
    (holds_as r z t b m k (omega arith) (omega arith) (omega arith) (omega arith) (e.by_index k (omega arith) (omega (arith, c.requires.v_bound_2))))
