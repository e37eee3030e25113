-- The four windows lie inside the samples, the last of them perhaps across the end of the rows.
use Prim.Native.Nat.{ℕ, ◌+◌, ◌*◌, ◌<◌, ◌≤◌}
use mathlib.Core.Path.{◌≡◌, refl}
use native.Mathlib.Omega.{arith}
use Rattle.picture.specs.Sizes.{macroblocks}
use Rattle.transform.specs.Level.{cell}
use Rattle.forward_two_edges.specs.declared.macroblock.Macroblock.{Macroblock}
use Rattle.forward_two_edges.proofs.Strips.{place-low}
use Rattle.forward_two_windows.proofs.Filled.{windows-hold}
use Rattle.forward_two_windows.proofs.windows_at.Goals as goal

-- a place after the last number read, in the row below: the last window may go on there
low : (m : Macroblock) (v : ℕ) {a : ℕ} → a ≡ cell (4 * m.size.width.0) (16 * m.r + (4 * v + 2)) (16 * m.c + 0) → 4 * m.r + v + 1 < 4 * m.size.height.0
    → (a + 4 * (16 * m.size.width.0) + 15 < 256 * macroblocks m.size + 16 * m.c) × (256 * macroblocks m.size ≤ 55507200)
low m v e h =
    let p = place-low m.size m.sized (16 * m.r + 4 * v + 6) 15 refl (omega arith) (omega (arith, m.sized.wide)) in
    (omega (arith, p, e), p.1)

pub undo_four_windows-requires-clause-w_in_bounds : goal.undo_four_windows-requires-clause-w_in_bounds
undo_four_windows-requires-clause-w_in_bounds c = omega (arith, c.row_samples-w.ensures, low c.args.here.now c.args.v c.requires.stands.0 c.requires.v_bound_2.0, c.requires.v_bound, c.requires.v_bound_2, c.requires.samples_len)

pub returns-clause-by_index : goal.returns-clause-by_index
returns-clause-by_index c =
    let a = c.args in
    let m = a.here.now in
    windows-hold m.size a.samples.now c.requires.samples_len m.r m.c a.v a.l _ _ c.requires.v_bound_2.0 c.requires.v_bound.1 (omega (arith, c.requires.stands)) (omega (arith, c.requires.stands)) (rw c.row_samples-w.ensures at c.undo_four_windows.ensures)
