-- Windows, edge rows, edge columns and corners, one after another, up to the first that wraps.
use mathlib.Core.Path.{sym, ◌∙◌}
use Rattle.transform.proofs.Told.{filters-told}
use Rattle.filters_told.proofs.filters_wrap.Goals as goal

pub returns-then-windows_wrap : goal.returns-then-windows_wrap
returns-then-windows_wrap c =
    rw (filters-told c.args.squares.across c.args.squares.down c.args.squares.wide c.args.squares.tall c.args.grid.now, sym c.windows_wrap.ensures ∙ c.if-windows_wrap.true)

pub returns-then-edge_rows_wrap : goal.returns-then-edge_rows_wrap
returns-then-edge_rows_wrap c =
    rw (filters-told c.args.squares.across c.args.squares.down c.args.squares.wide c.args.squares.tall c.args.grid.now, sym c.windows_wrap.ensures ∙ c.if-windows_wrap.false, sym c.edge_rows_wrap.ensures ∙ c.if-edge_rows_wrap.true)

pub returns-then-edge_columns_wrap : goal.returns-then-edge_columns_wrap
returns-then-edge_columns_wrap c =
    c.if-edge_columns_wrap.true ∙
    rw (
      filters-told c.args.squares.across c.args.squares.down c.args.squares.wide c.args.squares.tall c.args.grid.now,
      sym c.windows_wrap.ensures ∙ c.if-windows_wrap.false,
      sym c.edge_rows_wrap.ensures ∙ c.if-edge_rows_wrap.false,
      sym c.edge_columns_wrap.ensures ∙ c.if-edge_columns_wrap.true,
    )

pub returns-else-edge_columns_wrap : goal.returns-else-edge_columns_wrap
returns-else-edge_columns_wrap c =
    rw (
      filters-told c.args.squares.across c.args.squares.down c.args.squares.wide c.args.squares.tall c.args.grid.now,
      sym c.windows_wrap.ensures ∙ c.if-windows_wrap.false,
      sym c.edge_rows_wrap.ensures ∙ c.if-edge_rows_wrap.false,
      sym c.edge_columns_wrap.ensures ∙ c.if-edge_columns_wrap.false,
    ) c.corners_wrap.ensures
