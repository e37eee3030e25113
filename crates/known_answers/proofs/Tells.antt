-- What is told is computed, level by level.
use mathlib.Core.Path.{refl}
use Rattle.lifting.specs.Wrap.{wrap}
use Rattle.lifting.specs.Wraps.{changes, value_wraps, line_wraps, wraps}
use Rattle.lifting.specs.Program.{get, put, ◌then◌, each, line_by, run_by, value_by}
use Rattle.figures.specs.Figures.{hadamard, odd, odd_odd, core, core_stages}
use Rattle.transform.specs.Level.{square, core_at, cores, level}
use Rattle.picture.specs.Table.{table}
use Rattle.transform.specs.Grids.{grid, first_grid, second_grid}
use Rattle.transform.specs.Transform.{quarter_by}
use Rattle.transform.specs.Wraps.{quarter_wraps_by, inverse_wraps_by}
use Rattle.known_answers.specs.Tells.{TellsOfEachLevel}

pub tells_of_each_level : TellsOfEachLevel
unfolding wrap run_by line_by value_by get put ◌then◌ each hadamard odd odd_odd core core_stages square core_at cores level table grid first_grid second_grid quarter_by changes value_wraps line_wraps wraps quarter_wraps_by inverse_wraps_by
tells_of_each_level = (refl, refl, refl)
