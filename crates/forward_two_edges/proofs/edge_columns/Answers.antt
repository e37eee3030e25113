-- The corner above, two columns of fours, and the corner below.
use Prim.Native.Nat.{ℕ, ◌+◌, ◌*◌, ◌<◌, ◌≤◌}
use native.Mathlib.Omega.{arith}
use Rattle.picture.specs.Sizes.{macroblocks}
use Rattle.forward_two_edges.specs.Unfiltered.{First}
use Rattle.forward_two_edges.specs.declared.macroblock.Macroblock.{Macroblock}
use Rattle.forward_two_edges.proofs.Alone.{first_inside}
use Rattle.forward_two_edges.proofs.Strips.{place-low, columns_filled, rows_down, columns_joined}
use Rattle.forward_two_edges.proofs.edge_columns.Goals as goal

-- the place after the last of the windows down
low : (m : Macroblock) (x : ℕ) → First (4 * m.size.width.0) (16 * m.c + x) → (m.at + (2 + 4 * m.down) * (16 * m.size.width.0) + (x + 1) < 256 * macroblocks m.size) × (256 * macroblocks m.size ≤ 55507200)
low m x fx =
    let beside = first_inside (4 * m.size.width.0) (16 * m.c + x) (omega (arith, m.sized.wide)) fx in
    place-low m.size m.sized (16 * m.r + 2 + 4 * m.down) (16 * m.c + x + 1) (omega (arith, m.place)) (omega (arith, rows_down m)) (omega arith)

pub column_fours-last-requires : goal.column_fours-last-requires
column_fours-last-requires c =
    let m = c.args.here.now in
    (omega (arith, c.row_samples-w.ensures, m.sized.wide), rw c.row_samples-w.ensures (omega (arith, c.row_samples-w.ensures, low m c.args.x c.requires.x_bound.1, c.below-second.ensures, c.requires.samples_len)), omega (arith, rows_down m, c.below-second.ensures, c.requires.x_bound.0))

pub returns-clause-holds : goal.returns-clause-holds
returns-clause-holds c =
    let a = c.args in
    let m = a.here.now in
    let k = c.requires.x_bound in
    (columns_joined m a.x k.0 c.corner.ensures
    (columns_filled m.size a.samples.now m.sized.wide m.sized.tall c.requires.samples_len m.r m.c a.x m.down _ _ k.0 (rows_down m).2 k.1 (omega (arith, c.row_samples-w.ensures, m.place, c.below-second.ensures)) (omega (arith, c.below-second.ensures)) (rw c.row_samples-w.ensures at c.column_fours-last.ensures.columns))
    c.corner-2.ensures).holds
