-- The pictures are computed.
use mathlib.Core.Path.{refl}
use Rattle.lifting.specs.Wrap.{wrap}
use Rattle.lifting.specs.Program.{get, put, ◌then◌, each, line_by, run_by, value_by}
use Rattle.figures.specs.Figures.{hadamard, odd, odd_odd, core, core_stages, rotation, scale, post_hadamard, post_odd_odd, four_filter, square_filter}
use Rattle.transform.specs.Level.{square, core_at, square_filter_at, four_filter_at, corner_filter_at, cores, square_filters, row_filters, column_filters, corner_filters, filters, level}
use Rattle.picture.specs.Table.{table}
use Rattle.transform.specs.Grids.{grid, first_grid, second_grid}
use Rattle.transform.specs.Transform.{quarter_by, inverse_by}
use Rattle.known_answers.specs.Pictures.{LowPassOrder, BlockOrder, QuarterViews}

pub low_pass_order : LowPassOrder
unfolding wrap run_by line_by value_by get put ◌then◌ each hadamard odd odd_odd core core_stages square core_at cores level table grid first_grid quarter_by
low_pass_order = refl

pub block_order_lem : BlockOrder
unfolding wrap run_by line_by value_by get put ◌then◌ each hadamard odd odd_odd core core_stages square core_at cores level table grid first_grid second_grid quarter_by inverse_by
block_order_lem = refl

pub quarter_views : QuarterViews
unfolding wrap run_by line_by value_by get put ◌then◌ each hadamard odd odd_odd core core_stages rotation scale post_hadamard post_odd_odd four_filter square_filter square core_at square_filter_at four_filter_at corner_filter_at cores square_filters row_filters column_filters corner_filters filters level table grid first_grid second_grid quarter_by inverse_by
quarter_views = (refl, refl)
