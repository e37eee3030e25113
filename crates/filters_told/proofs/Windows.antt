-- A window that gave numbers of at most 2^27 has not wrapped: the growth of the filter undone, with the window's places taken row by row.
use Prim.Native.Nat.{ℕ, ◌+◌, ◌≤◌}
use mathlib.Core.Path.{◌≡◌, refl, ◌∙◌}
use mathlib.Core.Bool.{false}
use mathlib.Core.List.{List}
use native.Mathlib.Omega.{arith}
use lib.IntN.{ℤ, nat_abs}
use Rattle.lifting.specs.Program.{SquareFilter, at, get}
use Rattle.lifting.specs.Wraps.{undo_wraps}
use Rattle.lifting.specs.AnyUse.{any_use}
use Rattle.lifting.proofs.AnyUse.{any_use_apply}
use Rattle.lifting.proofs.Between.{All}
use Rattle.lifting.proofs.Calm.{within-get}
use Rattle.figures.specs.Figures.{square_filter}
use Rattle.figures.proofs.Growth.{square_filter_undone_grows}
use Rattle.transform.specs.Level.{strip, square, square_filter_at}
use Rattle.transform.proofs.Cells.{all-strip, all-square}
use Rattle.large_numbers.specs.Small.{AtMost}

module _ (v : List ℤ) where
  abbrev Low : ℕ → Type 0
  Low k = nat_abs (at v k) ≤ 134217728

  -- four numbers in a row
  abbrev Four : ℕ → Type 0
  Four i = AtMost 134217728 v i (i + 4)

  four : (i : ℕ) → Four i → All Low (strip 1 i)
  four i h = all-strip Low 1 i (h i (omega arith) (omega arith)) (h (i + 1) (omega arith) (omega arith)) (h (i + 1 + 1) (omega arith) (omega arith)) (h (i + 1 + 1 + 1) (omega arith) (omega arith))

  pub window-calm : (w i : ℕ) → Four i → Four (i + w) → Four (i + w + w) → Four (i + w + w + w) → any_use undo_wraps (square_filter_at w i) v ≡ false
  unfolding square_filter_at get square
  window-calm w i a b c d =
      any_use_apply undo_wraps SquareFilter square_filter (square w i) v
      ∙ (square_filter_undone_grows 134217728 (omega arith)).calm refl (within-get 134217728 (square w i) v (all-square Low w i (four _ a) (four _ b) (four _ c) (four _ d)))
