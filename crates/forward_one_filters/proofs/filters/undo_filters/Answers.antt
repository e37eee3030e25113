-- The corners, the columns, the rows and the squares, one after another.
use native.Mathlib.Omega.{arith}
use Rattle.forward_one_filters.proofs.Edges.{bottom-row, last_square, filters_parts}
use Rattle.forward_one_filters.proofs.filters.undo_filters.Goals as goal

pub undo_edges-requires-clause-n_value : goal.undo_edges-requires-clause-n_value
undo_edges-requires-clause-n_value c =
    let s = c.get-known.ensures.sized in
    let b = bottom-row s c.requires in
    rw (c.columns.ensures, c.get-known.ensures.value) (omega (arith, c.requires), omega arith, omega arith)

pub returns : goal.returns
returns c =
    let s = c.get-known.ensures.sized in
    let v = c.get-known.ensures.value in
    filters_parts c.args.size s (bottom-row s c.requires).1 (last_square s c.requires).1 _
    (rw v at c.undo_corners.ensures) (rw (c.columns.ensures, v) at c.undo_edges.ensures) (rw (c.rows.ensures, v) at c.undo_edges-2.ensures) c.undo_square_filters.ensures
