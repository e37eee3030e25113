-- Each try is computed: forward, quantise, restore, inverse, and every difference.
use mathlib.Core.Path.{refl}
use Rattle.lifting.specs.Wrap.{wrap}
use Rattle.lifting.specs.Program.{back, get, put, ◌then◌, each, line_by, run_by, undo_by, value_by}
use Rattle.figures.specs.Figures.{hadamard, odd, odd_odd, core, core_stages}
use Rattle.transform.specs.Level.{square, core_at, cores, level}
use Rattle.picture.specs.Table.{table}
use Rattle.transform.specs.Grids.{grid, first_grid, second_grid, dc_of, low_of, view_of, high_of}
use Rattle.transform.specs.Transform.{quarter_by, inverse_by, second_undone, first_undone, forward_by}
use Rattle.step_sizes.specs.Steps.{step_of}
use Rattle.step_sizes.specs.Levels.{quantised}
use Rattle.quantise.specs.Quantise.{quantised_planes}
use Rattle.restore.specs.Restore.{restored_planes}
use Rattle.tries.specs.Tries.{tried_planes_by, tried_samples_by, passes_by}
use Rattle.known_answers.specs.Tries.{HighPassDecides, LastSampleDecides}

pub high_pass_decides : HighPassDecides
unfolding wrap run_by back undo_by line_by value_by get put ◌then◌ each hadamard odd odd_odd core core_stages square core_at cores level table grid first_grid second_grid dc_of low_of view_of high_of quarter_by inverse_by second_undone first_undone forward_by step_of quantised quantised_planes restored_planes tried_planes_by tried_samples_by passes_by
high_pass_decides = (refl, refl)

pub last_sample_decides : LastSampleDecides
unfolding wrap run_by back undo_by line_by value_by get put ◌then◌ each hadamard odd odd_odd core core_stages square core_at cores level table grid first_grid second_grid dc_of low_of view_of high_of quarter_by inverse_by second_undone first_undone forward_by step_of quantised quantised_planes restored_planes tried_planes_by tried_samples_by passes_by
last_sample_decides = (refl, refl)
