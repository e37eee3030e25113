-- The values of both tables hold: both sides of every entry compute to the same numbers.
use mathlib.Core.Path.{refl}
use Rattle.lifting.specs.Wrap.{wrap}
use Rattle.lifting.specs.Program.{get, put, line_by, run_by, value_by}
use Rattle.figures.specs.Figures.{hadamard, odd, odd_odd, rotation, scale, post_hadamard, post_odd_odd, four_filter, square_filter, core, core_stages}
use Rattle.figures.specs.Bench.{StarredHold}
use Rattle.figures.specs.Reference.{ReferenceHold}

pub starred-hold : StarredHold
unfolding wrap run_by line_by value_by get put hadamard odd odd_odd rotation scale post_hadamard core core_stages
starred-hold = record { count = refl; outputs = refl }

pub reference-hold : ReferenceHold
unfolding wrap run_by line_by value_by get put hadamard odd odd_odd core core_stages rotation scale post_hadamard post_odd_odd four_filter square_filter
reference-hold = record { count = refl; outputs = refl }
