-- The definitions at pictures of one macroblock, computed: indices that pass and that do not, and a product that leaves the range.
use Prim.Native.Nat.{ℕ}
use mathlib.Core.Path.{◌≡◌, refl}
use mathlib.Core.Bool.{Bool, true, false}
use mathlib.Core.List.{[], ◌∷◌}
use lib.IntN.{pos}
use Rattle.lifting.specs.Wrap.{wrap}
use Rattle.lifting.specs.Program.{back, get, put, ◌then◌, each, line_by, run_by, undo_by, value_by}
use Rattle.figures.specs.Figures.{hadamard, odd, odd_odd, core, core_stages}
use Rattle.transform.specs.Level.{square, core_at, cores, level}
use Rattle.picture.specs.Table.{table}
use Rattle.transform.specs.Grids.{grid, first_grid, second_grid, dc_of, low_of, view_of, high_of}
use Rattle.transform.specs.Transform.{quarter_by, inverse_by, second_undone, first_undone, forward_by, inverse}
use Rattle.transform.proofs.Sanity.{of, dc_only}
use Rattle.step_sizes.specs.Steps.{step_of}
use Rattle.step_sizes.specs.Levels.{quantised}
use Rattle.quantise.specs.Quantise.{quantised_planes}
use Rattle.restore.specs.Restore.{restored_planes}
use Rattle.tries.specs.Tries.{tried_planes_by, tried_samples_by, passes_by, passes}

-- in mode 0 a DC number of 64 gives samples of 4: step 32 keeps it, and step 507904 makes it 0
abbrev grey : ℕ → ℕ → Bool
grey = passes 0 (of 1 1) (table 256 (λ i. pos 4))

-- a DC number of 2147483647: step 2 has the product 2147483648
abbrev bright : ℕ → ℕ → Bool
bright = passes 0 (of 1 1) (inverse 0 (of 1 1) (dc_only 1 (pos 2147483647 ∷ [])))

pub computed : (grey 0 32 ≡ true) × (grey 4 255 ≡ true) × (grey 3 255 ≡ false) × (bright 4294967295 2 ≡ false)
unfolding wrap run_by back undo_by line_by value_by get put ◌then◌ each hadamard odd odd_odd core core_stages square core_at cores level table grid first_grid second_grid dc_of low_of view_of high_of quarter_by inverse_by second_undone first_undone forward_by step_of quantised quantised_planes restored_planes tried_planes_by tried_samples_by passes_by
computed = (refl, refl, refl, refl)
