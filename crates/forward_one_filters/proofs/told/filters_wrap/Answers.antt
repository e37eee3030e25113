-- What the windows, the rows, the columns and the corners tell, up to the first that wraps.
use Prim.Native.Nat.{◌-◌}
use mathlib.Core.Path.{◌≡◌, sym, ◌∙◌}
use mathlib.Core.Bool.{◌||◌}
use mathlib.Core.List.{List}
use native.Mathlib.Omega.{arith}
use lib.IntN.{ℤ}
use Rattle.lifting.specs.Wraps.{undo_wraps}
use Rattle.lifting.specs.AnyUse.{any_use}
use Rattle.picture.specs.declared.size.Size.{Size}
use Rattle.picture.specs.Sizes.{Sized, macroblocks}
use Rattle.grid.proofs.Rows.{row-above}
use Rattle.transform.specs.Level.{square_filters, filters}
use Rattle.transform.proofs.Told.{filters-told}
use Rattle.forward_one_filters.specs.Edges.{edges, edges_of, corners}
use Rattle.forward_one_filters.proofs.Edges.{rows_are, columns_are, corners_are}
use Rattle.forward_one_filters.proofs.told.filters_wrap.Goals as goal

-- the stages, with the edges as the calls take them
stages : (size : Size) → Sized size → (v : List ℤ) → let W = size.width.0 in let H = size.height.0 in let bottom = macroblocks size - W in
    undo_wraps (filters W H) v ≡ any_use undo_wraps (square_filters W H) v
    || (any_use undo_wraps (edges size (edges_of bottom 1 4 1 (W - 1))) v || (any_use undo_wraps (edges size (edges_of (W - 1) W 1 4 (H - 1))) v || any_use undo_wraps (corners size (W - 1) bottom (macroblocks size - 1)) v))
stages size s v =
    let up = row-above size.height.0 size.width.0 s.tall in
    let wide = s.wide in
    let bottom = macroblocks size - size.width.0 in
    rw (rows_are size s bottom (omega arith), columns_are size s, corners_are size s bottom (macroblocks size - 1) (omega arith) (omega arith)) (filters-told _ _ s.wide s.tall v)

pub returns-then-windows_wrap : goal.returns-then-windows_wrap
returns-then-windows_wrap c = let grid = c.args.level.now in rw (stages grid.size c.width-width.ensures.sized grid.numbers, sym c.windows_wrap.ensures ∙ c.if-windows_wrap.true)

pub returns-then-edges_wrap : goal.returns-then-edges_wrap
returns-then-edges_wrap c =
    let grid = c.args.level.now in
    let rows = rw (c.rows.ensures, c.width-width.ensures.value, c.squares-squares.ensures.value) at c.edges_wrap.ensures in
    rw (stages grid.size c.width-width.ensures.sized grid.numbers, sym c.windows_wrap.ensures ∙ c.if-windows_wrap.false, sym rows ∙ c.if-edges_wrap.true)

pub edges_wrap-requires-2 : goal.edges_wrap-requires-2
edges_wrap-requires-2 c =
    let s = c.width-width.ensures.sized in
    let up = row-above c.args.level.now.size.height.0 c.args.level.now.size.width.0 s.tall in
    rw (c.columns.ensures, c.width-width.ensures.value, c.height-height.ensures.value) (omega arith, omega arith)

pub returns-then-edges_wrap-2 : goal.returns-then-edges_wrap-2
returns-then-edges_wrap-2 c =
    let grid = c.args.level.now in
    let rows = rw (c.rows.ensures, c.width-width.ensures.value, c.squares-squares.ensures.value) at c.edges_wrap.ensures in
    let columns = rw (c.columns.ensures, c.width-width.ensures.value, c.height-height.ensures.value) at c.edges_wrap-2.ensures in
    c.if-edges_wrap-2.true
    ∙ rw (stages grid.size c.width-width.ensures.sized grid.numbers, sym c.windows_wrap.ensures ∙ c.if-windows_wrap.false, sym rows ∙ c.if-edges_wrap.false, sym columns ∙ c.if-edges_wrap-2.true)

pub returns-else-edges_wrap-2 : goal.returns-else-edges_wrap-2
returns-else-edges_wrap-2 c =
    let grid = c.args.level.now in
    let rows = rw (c.rows.ensures, c.width-width.ensures.value, c.squares-squares.ensures.value) at c.edges_wrap.ensures in
    let columns = rw (c.columns.ensures, c.width-width.ensures.value, c.height-height.ensures.value) at c.edges_wrap-2.ensures in
    rw (stages grid.size c.width-width.ensures.sized grid.numbers, sym c.windows_wrap.ensures ∙ c.if-windows_wrap.false, sym rows ∙ c.if-edges_wrap.false, sym columns ∙ c.if-edges_wrap-2.false)
    (rw (c.width-width.ensures.value, c.squares-squares.ensures.value) at c.corners_wrap.ensures)
