-- Every figure can be undone: the test of validity computes to true, and the reversal law does the rest.
use mathlib.Core.Path.{◌≡◌, refl}
use lib.Dec.{T}
use lib.IntN.{ℤ, pos}
use Rattle.lifting.specs.Program.{◌then◌, Hadamard, PostHadamard}
use Rattle.lifting.specs.Valid.{valid, undoes}
use Rattle.figures.specs.Figures.{hadamard, odd, odd_odd, inverse_reorder, forward_reorder, core, core_stages, rotation, scale, post_hadamard, post_odd_odd, four_filter, square_filter}
use Rattle.figures.specs.Pieces.{odd_odd_rounded, quarter_stage, core_mirrored_stage, mirrored_stage, crossed_stage}

pub hadamard-valid : (R : ℤ) → T (valid 4 (hadamard R))
unfolding hadamard
hadamard-valid R = tt

pub core-valid : T (valid 16 core)
unfolding core core_stages hadamard odd odd_odd
core-valid = tt

pub four-filter-valid : T (valid 4 four_filter)
unfolding four_filter rotation
four-filter-valid = tt

pub square-filter-valid : T (valid 16 square_filter)
unfolding square_filter hadamard rotation scale post_hadamard post_odd_odd
square-filter-valid = tt

-- each of the two reorder tables undoes the other
pub inverse-undoes-forward : T (undoes 16 inverse_reorder forward_reorder)
inverse-undoes-forward = tt

pub forward-undoes-inverse : T (undoes 16 forward_reorder inverse_reorder)
forward-undoes-inverse = tt

-- Figure 4.12 is the shared lines with its roundings
pub post_odd_odd_pieces : odd_odd_rounded (pos 6) (pos 2) ≡ post_odd_odd
unfolding odd_odd_rounded post_odd_odd
post_odd_odd_pieces = refl

-- Figures 4.8 and 4.14 are their stages one after the other
pub core_stages_lem : quarter_stage then core_mirrored_stage ≡ core_stages
unfolding ◌then◌ quarter_stage core_mirrored_stage core_stages
core_stages_lem = refl

pub square_filter_stages : mirrored_stage Hadamard (hadamard (pos 0)) then (crossed_stage then mirrored_stage PostHadamard post_hadamard) ≡ square_filter
unfolding ◌then◌ mirrored_stage crossed_stage square_filter
square_filter_stages = refl
