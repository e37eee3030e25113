-- The planes after both levels: each is read off the grid that it makes up; and whether one of the two levels wraps.
use Prim.Native.Nat.{ℕ, ◌*◌}
use mathlib.Core.Path.{◌≡◌, sym, ◌∙◌, ap}
use mathlib.Core.Bool.{Bool, ◌||◌}
use mathlib.Core.List.{List}
use lib.ListN.{length}
use lib.IntN.{ℤ}
use Rattle.lifting.specs.Program.{undo}
use Rattle.lifting.specs.Wraps.{undo_wraps}
use Rattle.picture.specs.declared.mode.Mode.{Mode}
use Rattle.picture.specs.declared.size.Size.{Size}
use Rattle.picture.specs.Sizes.{Sized, macroblocks}
use Rattle.picture.specs.Planes.{Lengths, planes}
use Rattle.transform.specs.Grids.{grid, first_grid, second_grid, view_of}
use Rattle.transform.specs.Transform.{level_one, level_two, second_undone, first_undone, forward_by}
use Rattle.transform.specs.Wraps.{forward_wraps_by}
use Rattle.picture.proofs.Table.{length-table}
use Rattle.transform.proofs.Grid.{dc-of-first, low-of-first, view_of_second, high-of-second}

-- ---- both levels: a and l after level two with h, and a' and l' after level one

module _ (mode : Mode) (size : Size) (sized : Sized size) (samples a l h a' l' : List ℤ) (fit : Lengths (macroblocks size) (planes a' l' h)) where
  abbrev W : ℕ
  W = size.width.0

  abbrev H : ℕ
  H = size.height.0

  length-first : length (first_grid W H a l) ≡ 16 * (W * H)
  unfolding first_grid grid
  length-first = length-table (16 * (W * H)) _

  module _ (second : second_grid W H (first_grid W H a l) h ≡ undo (level_two mode size) samples) (first : first_grid W H a' l' ≡ undo (level_one mode size) (first_grid W H a l)) where
    second_is : second_grid W H (first_grid W H a l) h ≡ second_undone mode size samples
    unfolding second_undone
    second_is = second

    -- what level two leaves for level one
    view_is : first_grid W H a l ≡ view_of W H (second_undone mode size samples)
    view_is = sym (view_of_second sized.wide H (first_grid W H a l) h length-first) ∙ ap (view_of W H) second_is

    first-is : first_grid W H a' l' ≡ first_undone mode size samples
    unfolding first_undone
    first-is = first ∙ ap (undo (level_one mode size)) view_is

    pub wraps_are : {x y : Bool} → x ≡ undo_wraps (level_two mode size) samples → y ≡ undo_wraps (level_one mode size) (first_grid W H a l) → x || y ≡ forward_wraps_by mode size samples
    unfolding forward_wraps_by
    wraps_are e f = rw (e, f, view_is)

    pub planes-are : planes a' l' h ≡ forward_by mode size samples
    unfolding forward_by
    planes-are =
        rw (← first-is, ← second_is, dc-of-first sized.wide H a' l' fit.dc, low-of-first sized.wide H a' l' fit.low, high-of-second sized.wide H (first_grid W H a l) h fit.high)
