-- A picture's planes wrap on their way to samples if and only if the samples do on their way back: each level does, and the way back takes the levels in the other order.
use Prim.Native.Nat.{ℕ}
use mathlib.Core.Path.{◌≡◌, sym, ◌∙◌, ap}
use Rattle.lifting.specs.Wraps.{wraps, undo_wraps}
use Rattle.lifting.proofs.Reverse.{undo-run}
use mathlib.Core.Bool.{or_comm}
use Rattle.lifting.proofs.Turned.{wraps_turned}
use Rattle.picture.specs.declared.size.Size.{Size}
use Rattle.picture.specs.declared.mode.Mode.{Mode}
use Rattle.picture.specs.Modes.{mode_of}
use Rattle.picture.specs.Sizes.{Sized}
use Rattle.picture.specs.Planes.{Planes, PlanesOf}
use Rattle.transform.specs.Grids.{second_grid, view_of}
use Rattle.transform.specs.Transform.{level_one, level_two, quarter_by, inverse_by, second_undone}
use Rattle.transform.specs.Wraps.{quarter_wraps_by, inverse_wraps_by, forward_wraps_by, WrapsBothWays}
use Rattle.transform.proofs.Grid.{row_first, view_of_second}
use Rattle.transform.proofs.OnePlanes.{first-valid, second-valid, row-quarter, grid-row}

module _ (mode : Mode) (size : Size) (sized : Sized size) {s : Planes} (r : PlanesOf size s) where
  abbrev W : ℕ
  W = size.width.0

  abbrev H : ℕ
  H = size.height.0

  -- level two undone gives its grid again, and in it what level one had left
  view_again : view_of W H (second_undone mode size (inverse_by mode size s)) ≡ quarter_by mode size s.dc s.low
  unfolding inverse_by second_undone
  view_again =
      ap (view_of W H) (undo-run (level_two mode size) (second-valid mode size sized) (grid-row mode size sized r))
      ∙ view_of_second sized.wide H _ s.high (row-quarter mode size sized r.dc r.low).len

  second : wraps (level_two mode size) (second_grid W H (quarter_by mode size s.dc s.low) s.high) ≡ undo_wraps (level_two mode size) (inverse_by mode size s)
  unfolding inverse_by
  second = wraps_turned (level_two mode size) (second-valid mode size sized) (grid-row mode size sized r)

  first : quarter_wraps_by mode size s.dc s.low ≡ undo_wraps (level_one mode size) (view_of W H (second_undone mode size (inverse_by mode size s)))
  unfolding quarter_wraps_by quarter_by
  first = wraps_turned (level_one mode size) (first-valid mode size sized) (row_first W H r.dc r.low) ∙ ap (undo_wraps (level_one mode size)) (sym view_again)

  both_ways : inverse_wraps_by mode size s ≡ forward_wraps_by mode size (inverse_by mode size s)
  unfolding inverse_wraps_by forward_wraps_by
  both_ways = rw (first, second) (or_comm (undo_wraps (level_one mode size) (view_of W H (second_undone mode size (inverse_by mode size s)))) (undo_wraps (level_two mode size) (inverse_by mode size s)))

pub wraps_both_ways : WrapsBothWays
wraps_both_ways mode size shape s r = both_ways (mode_of mode) size shape.sized r
