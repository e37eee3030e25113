-- Four windows unfiltered into the strip are the unfiltered samples there, as far as the picture has the windows.
use Prim.Native.Nat.{ℕ, ◌+◌, ◌-◌, ◌*◌, ◌/◌, ◌%◌, ◌≤◌, ◌<◌}
use mathlib.Core.Path.{◌≡◌, sym, ◌∙◌, ap, ap₂}
use mathlib.Core.List.{List}
use native.Mathlib.Omega.{arith}
use lib.ListN.{length}
use lib.IntN.{ℤ}
use Rattle.lifting.specs.Program.{at, get, undo}
use Rattle.figures.specs.Figures.{square_filter}
use Rattle.transform.specs.Level.{cell, square, filters}
use Rattle.picture.specs.Sizes.{macroblocks}
use Rattle.picture.specs.declared.size.Size.{Size}
use Rattle.forward_four_windows.specs.Windows.{window_at, Windows}
use Rattle.forward_two_edges.specs.Unfiltered.{unfiltered}
use Rattle.forward_two_edges.specs.Strip.{Holds}
use Rattle.forward_two_edges.proofs.Numbers.{window-at}

module _ (size : Size) (samples : List ℤ) (len : length samples ≡ 256 * macroblocks size) (r c v l a i : ℕ) {old new : List ℤ} (low : 4 * r + v + 1 < 4 * size.height.0)
    (few : l ≤ 12) (place : a ≡ (16 * r + 4 * v + 2) * (16 * size.width.0) + 16 * c + 4 * l + 2) (to : i ≡ 72 * (4 * v + 2) + 4 * l + 2) (d : Windows samples (16 * size.width.0) a i old new) where
  abbrev W : ℕ
  W = size.width.0

  abbrev H : ℕ
  H = size.height.0

  pub windows-hold : (k : ℕ) → k ≤ 4 * l + 18 → 16 * c + k + 2 ≤ 16 * W → Holds size samples r c (4 * v + 2) (4 * v + 6) (4 * l + 2) k new
  unfolding window_at unfiltered
  windows-hold k h some = record {
    there = λ y x e f g m o p.
        let s = y - (4 * v + 2) in
        let b = x - (4 * l + 2) in
        let j = 4 * r + v in
        let u = 4 * c + l + b / 4 in
        let n = 4 * s + b % 4 in
        ap (at new) (omega arith) ∙ d.own s b (omega arith) (omega arith)
        ∙ ap₂ (λ (w z : ℕ). at (undo square_filter (get (square w z) samples)) n) (omega arith) (omega (arith, place))
        ∙ sym (window-at (4 * W) (4 * H) samples (len ∙ omega arith) j u n (omega arith) (omega arith) (omega arith))
        ∙ ap₂ (λ (z w : ℕ). at (undo (filters (4 * W) (4 * H)) samples) (cell (4 * W) z w)) (omega arith) (omega arith);
  }
