-- Both levels of a picture, the first in the front of the samples: what they make of the planes, and whether a sum wraps.
use Prim.Native.Nat.{◌*◌}
use mathlib.Core.Path.{◌≡◌, ◌∙◌, ap}
use mathlib.Core.Bool.{Bool, ◌||◌}
use mathlib.Core.List.{List, ◌++◌}
use lib.IntN.{ℤ}
use lib.ListN.{length, take}
use lib.Seq.{take_at}
use Rattle.lifting.specs.Program.{run}
use Rattle.lifting.specs.Wraps.{wraps}
use Rattle.picture.specs.declared.mode.Mode.{Mode}
use Rattle.picture.specs.declared.size.Size.{Size}
use Rattle.picture.specs.Sizes.{macroblocks}
use Rattle.picture.specs.Planes.{Planes}
use Rattle.transform.specs.Grids.{first_grid, second_grid}
use Rattle.transform.specs.Transform.{level_one, level_two, quarter_by, inverse_by}
use Rattle.transform.specs.Wraps.{quarter_wraps_by, inverse_wraps_by}

module _ (mode : Mode) (size : Size) (s : Planes) where
  -- the grid of level two
  abbrev second : List ℤ → List ℤ
  second view = second_grid size.width.0 size.height.0 view s.high

  -- the front of the samples, where level one has left its numbers
  pub view_is : {new : List ℤ} (rest : List ℤ) → length new ≡ 16 * macroblocks size → new ≡ run (level_one mode size) (first_grid size.width.0 size.height.0 s.dc s.low)
      → take (16 * macroblocks size) (new ++ rest) ≡ quarter_by mode size s.dc s.low
  unfolding quarter_by
  view_is rest k f = take_at _ _ _ k ∙ f

  pub samples_are : {v view : List ℤ} → v ≡ run (level_two mode size) (second view) → view ≡ quarter_by mode size s.dc s.low → v ≡ inverse_by mode size s
  unfolding inverse_by
  samples_are e f = e ∙ ap (λ x. run (level_two mode size) (second x)) f

  pub wraps_are : {a b : Bool} {view : List ℤ} → a ≡ quarter_wraps_by mode size s.dc s.low → b ≡ wraps (level_two mode size) (second view) → view ≡ quarter_by mode size s.dc s.low → a || b ≡ inverse_wraps_by mode size s
  unfolding inverse_wraps_by
  wraps_are e f g = rw (e, f, g)
