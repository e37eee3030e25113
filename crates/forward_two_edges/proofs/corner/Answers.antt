-- Four samples read, unfiltered and stored; with no rows, nothing.
use Prim.Native.Nat.{◌<◌}
use native.Mathlib.Omega.{arith}
use Rattle.forward_two_edges.proofs.Strips.{corner_filled}
use Rattle.forward_two_edges.proofs.corner.Goals as goal

pub returns-then-top-bottom : goal.returns-then-top-bottom
returns-then-top-bottom c =
    let a = c.args in
    let m = a.here.now in
    let some : a.top < a.bottom = omega arith in
    let e = c.requires.bottom_value some in
    rw e.0 (corner_filled m.size a.samples.now m.sized.wide m.sized.tall c.requires.samples_len m.r m.c a.top a.x a.at.samples _ c.get_corner-filtered.result c.unfiltered-undone.result
    c.requires.bottom_bound.1 (omega (arith, c.requires.bottom_bound, e.0)) e.1 c.requires.bottom_bound.2 (omega (arith, c.requires.stands some)) (c.requires.stands some).1 (rw c.row_samples-w.ensures at c.get_corner-filtered.ensures) c.unfiltered-undone.ensures c.put_corner.ensures)
