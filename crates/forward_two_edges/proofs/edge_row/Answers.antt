-- Four after four along the row; unfiltered, they are the unfiltered samples there.
use Prim.Native.Nat.{ℕ, ◌+◌, ◌*◌, ◌<◌, ◌≤◌}
use mathlib.Core.Path.{◌≡◌}
use native.Mathlib.Omega.{arith}
use Rattle.picture.specs.Sizes.{macroblocks}
use Rattle.transform.specs.Level.{cell}
use Rattle.forward_two_edges.specs.declared.macroblock.Macroblock.{Macroblock}
use Rattle.forward_two_edges.proofs.Strips.{place-low, spread_more, row_filled}
use Rattle.forward_two_edges.proofs.edge_row.Goals as goal

-- the place of the end of the row's fours
low : (m : Macroblock) (y n : ℕ) {a : ℕ} → a ≡ cell (4 * m.size.width.0) (16 * m.r + y) (16 * m.c + 0) → 16 * m.r + y < 16 * m.size.height.0 → 4 * m.c + n < 4 * m.size.width.0
    → (a + 2 + 4 * n < 256 * macroblocks m.size) × (256 * macroblocks m.size ≤ 55507200)
low m y n e h k = place-low m.size m.sized (16 * m.r + y) (16 * m.c + 2 + 4 * n) (omega (arith, e)) h (omega arith)

pub loop-l-preserved : goal.loop-l-preserved
loop-l-preserved c =
    let a = c.args in
    (omega arith, spread_more a.samples.now 1 (a.at.samples + 2) (a.at.strip + 2) 1 c.loop-l.l _ _ (omega arith) (omega arith) (omega arith) c.loop-l.invariant.1 c.unfilter_four.ensures)

pub unfilter_four-requires-clause-step_in_bounds : goal.unfilter_four-requires-clause-step_in_bounds
unfilter_four-requires-clause-step_in_bounds c = omega (arith, low c.args.here.now c.args.y c.args.n c.requires.stands.0 c.requires.edge.1 c.requires.y_bound.2, c.requires.samples_len)

pub returns-clause-holds : goal.returns-clause-holds
returns-clause-holds c =
    let a = c.args in
    let m = a.here.now in
    let all : c.loop-l.l ≡ a.n = omega arith in
    (row_filled m.size a.samples.now m.sized.wide m.sized.tall c.requires.samples_len m.r m.c a.y a.n (a.at.samples + 2) (a.at.strip + 2) c.requires.y_bound.1 c.requires.y_bound.2 c.requires.edge.0 c.requires.edge.1 (omega (arith, c.requires.stands)) (omega (arith, c.requires.stands)) (rw all at c.loop-l.invariant.1)).holds
