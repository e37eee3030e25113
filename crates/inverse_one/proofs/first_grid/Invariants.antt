-- What the loop keeps.
use Prim.Native.Nat.{◌*◌, ◌≤◌}
use mathlib.Core.Path.{◌≡◌}
use Rattle.inverse_levels.specs.Filled.{Filled}
use Rattle.inverse_one.specs.Rows.{plane_numbers, Between}
use Rattle.inverse_one.proofs.first_grid.Given as goal

abbrev pub invariant-loop-r : goal.invariant-loop-r
invariant-loop-r l =
    (l.r ≤ l.size.height.0) × (l.at ≡ l.r * (16 * l.size.width.0)) × (l.m ≡ l.r * l.size.width.0) × (l.from ≡ l.r * (15 * l.size.width.0)) × Filled l.size.width.0 (plane_numbers l.dc l.low) l.initial.view (Between 0 l.m) l.view
