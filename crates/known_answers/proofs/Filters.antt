-- The windows of each place are counted.
use mathlib.Core.Path.{refl}
use Rattle.lifting.specs.Program.{◌then◌, each}
use Rattle.transform.specs.Apart.{windows_at}
use Rattle.transform.specs.Level.{square, square_filter_at, four_filter_at, corner_filter_at, square_filters, row_filters, column_filters, corner_filters, filters}
use Rattle.known_answers.specs.Filters.{OneWindowEach}

pub one-window-each : OneWindowEach
unfolding windows_at ◌then◌ each square square_filter_at four_filter_at corner_filter_at square_filters row_filters column_filters corner_filters filters
one-window-each = refl
