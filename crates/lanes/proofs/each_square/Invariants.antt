-- What the loop keeps.
use Prim.Native.Nat.{ℕ, ◌<◌}
use mathlib.Core.Path.{◌≡◌}
use lib.ListN.{length}
use Rattle.lanes.specs.Lanes.{SquareBy}
use Rattle.lanes.proofs.each_square.Given as goal

abbrev pub invariant-loop-l : goal.invariant-loop-l
invariant-loop-l g l = (length l.out ≡ 64) × ((n : ℕ) → n < l.l → SquareBy (goal.F-post g l.f) l.grid l.w l.at l.out n)
