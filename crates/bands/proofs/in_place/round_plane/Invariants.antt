-- After i turns the first i cells have their products, reduced, the rest are as they were, and it is known whether a product was outside.
use Prim.Native.Nat.{ℕ}
use mathlib.Core.Path.{◌≡◌}
use mathlib.Core.List.{map}
use lib.IntN.{ℤ}
use lib.ListN.{take}
use Rattle.lifting.specs.Program.{at}
use Rattle.lifting.specs.Wrap.{wrap}
use Rattle.transform.proofs.UpTo.{UpTo}
use Rattle.step_sizes.specs.Steps.{step_of}
use Rattle.step_sizes.specs.Levels.{quantised, restored}
use Rattle.bands.specs.Bands.{any_out}
use Rattle.bands.proofs.in_place.round_plane.Given as goal

-- the product of a coefficient's level and the step
abbrev pub product : ℕ → ℤ → ℤ
product index x = restored (step_of index) (quantised (step_of index) x)

abbrev pub invariant-loop-x : goal.invariant-loop-x
invariant-loop-x l =
    UpTo (λ k. wrap (product l.index (at l.initial.plane k))) l.initial.plane l.x-index l.plane × (l.out ≡ any_out (map (product l.index) (take l.x-index l.initial.plane)))
