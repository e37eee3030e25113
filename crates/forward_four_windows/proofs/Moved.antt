-- Four windows moved out, number by number.
use Prim.Native.Nat.{ℕ, ◌+◌, ◌*◌, ◌/◌, ◌%◌, ◌<◌}
use mathlib.Core.Path.{◌≡◌, refl, sym, ◌∙◌, ap, ap₂}
use mathlib.Core.List.{List}
use native.Mathlib.Omega.{arith}
use lib.ListN.{length}
use lib.IntN.{ℤ}
use Rattle.lifting.specs.Program.{at, get, undo, undo_by}
use Rattle.lifting.proofs.Reverse.{length-put}
use Rattle.figures.specs.Figures.{square_filter}
use Rattle.transform.specs.Level.{square}
use Rattle.picture.proofs.Table.{same_lists}
use Rattle.lanes.specs.Lanes.{Placed}
use Rattle.lanes.proofs.Rows.{square-at}
use Rattle.forward_four_windows.specs.Windows.{window_at, Windows}

pub length-square : (v : List ℤ) → length v ≡ 16 → length (undo square_filter v) ≡ 16
unfolding undo_by square_filter
length-square v h = simp length-put h

-- undone and moved
pub windows_moved : (grid : List ℤ) (w i to : ℕ) (out old new : List ℤ) → ((l : ℕ) → l < 4 → get (square 16 (4 * l)) out ≡ undo square_filter (get (square w (i + 4 * l)) grid))
    → Placed out old 72 to new → Windows grid w i to old new
unfolding window_at
windows_moved grid w i to out old new undone p = record {
  len = p.len;
  own = λ y x h k.
      let l = x / 4 in
      let n = 4 * y + x % 4 in
      ap (at new) (omega arith) ∙ sym (square-at 72 (to + 4 * l) new n (omega arith))
      ∙ ap (λ v. at v n) (p.own l (omega arith) ∙ undone l (omega arith));
  others = p.rest;
}

-- one of the four windows as a square of the strip
pub window-of : (grid : List ℤ) (w i to : ℕ) {old new : List ℤ} → Windows grid w i to old new → (l : ℕ) → l < 4 → get (square 72 (to + 4 * l)) new ≡ undo square_filter (get (square w (i + 4 * l)) grid)
unfolding window_at get square
window-of grid w i to {old} {new} d l h =
    same_lists 16 _ _ refl (length-square _ refl)
    (λ k m.
    let x = 4 * l + k % 4 in
    let e : x / 4 ≡ l = omega arith in
    let f : 4 * (k / 4) + x % 4 ≡ k = omega arith in
    square-at 72 (to + 4 * l) new k m ∙ ap (at new) (omega arith) ∙ d.own (k / 4) x (omega arith) (omega arith) ∙ ap₂ (λ (a b : ℕ). at (undo square_filter (get (square w (i + 4 * a)) grid)) b) e f)
