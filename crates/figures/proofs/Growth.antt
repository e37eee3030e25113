-- How far the operators' numbers can grow, run and undone: the test of growth computes to true, and the law of forms does the rest.
-- Of each, the largest input for which nothing wraps, and the largest output for inputs of at most B, as num * B / den + add.
use Rattle.lifting.specs.Program.{run, undo, back, ◌then◌}
use Rattle.lifting.specs.Wraps.{wraps, undo_wraps, Grows}
use Rattle.lifting.proofs.NoWrap.{reverse}
use Rattle.lifting.proofs.Forms.{grows, grows_undone}
use Rattle.figures.specs.Figures.{hadamard, odd, odd_odd, core, core_stages, rotation, scale, post_hadamard, post_odd_odd, four_filter, square_filter}

pub core_grows : Grows 16 260000000 15 4 28 (wraps core) (run core)
unfolding core core_stages hadamard odd odd_odd
core_grows = grows 4294967296 16 260000000 15 4 28 core tt

pub square_filter_grows : Grows 16 187000000 41 16 64 (wraps square_filter) (run square_filter)
unfolding square_filter hadamard rotation scale post_hadamard post_odd_odd
square_filter_grows = grows 4294967296 16 187000000 41 16 64 square_filter tt

pub four_filter_grows : Grows 4 440000000 13 8 9 (wraps four_filter) (run four_filter)
unfolding four_filter rotation
four_filter_grows = grows 4294967296 4 440000000 13 8 9 four_filter tt

-- ---- undone

pub core_undone_grows : Grows 16 130000000 4 1 12 (undo_wraps core) (undo core)
unfolding core core_stages hadamard odd odd_odd reverse ◌then◌ back
core_undone_grows = grows_undone 4294967296 16 130000000 4 1 12 core tt

pub square_filter_undone_grows : Grows 16 167000000 41 16 64 (undo_wraps square_filter) (undo square_filter)
unfolding square_filter hadamard rotation scale post_hadamard post_odd_odd reverse ◌then◌ back
square_filter_undone_grows = grows_undone 4294967296 16 167000000 41 16 64 square_filter tt

pub four_filter_undone_grows : Grows 4 590000000 29 16 19 (undo_wraps four_filter) (undo four_filter)
unfolding four_filter rotation reverse ◌then◌ back
four_filter_undone_grows = grows_undone 4294967296 4 590000000 29 16 19 four_filter tt
