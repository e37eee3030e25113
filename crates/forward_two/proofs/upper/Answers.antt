-- Below the first row of macroblocks these rows are fetched.
use Prim.Native.Nat.{◌+◌, ◌*◌, ◌<◌}
use native.Mathlib.Omega.{arith}
use Rattle.forward_two_cores.specs.Blocks.{block_of}
use Rattle.forward_two_edges.proofs.Strips.{holds_as}
use Rattle.forward_two.proofs.Joined.{rows_fetched}
use Rattle.forward_two.proofs.upper.Goals as goal

pub returns-then-here-gt0-clause-holds_2 : goal.returns-then-here-gt0-clause-holds_2
returns-then-here-gt0-clause-holds_2 c =
    let a = c.args in
    let m = a.here.now in
    let k = c.requires.n_nonzero in
    let lower : 0 < m.r = grind (arith, m.top, c.if-here-gt0) in
    let e = c.fetch.ensures in
    (rows_fetched m.size a.samples.now m.sized.wide m.r m.c a.n m.below k.2 (block_of a.planes.now.dc a.planes.now.low a.planes.now.high) a.cells.dc c.requires.dc_value lower k.1 c.requires.through e.fetched e.kept
    (holds_as m.r m.c 2 18 0 (16 * a.n + 2) (omega (arith, m.top.rest lower)) (omega arith) (omega arith) (omega arith) c.requires.holds)).0
