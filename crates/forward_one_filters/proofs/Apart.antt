-- Windows of one row of windows lie apart, each in a cell of its own: storing one leaves the numbers of the others.
use Prim.Native.Nat.{ℕ, ◌+◌, ◌-◌, ◌*◌, ◌<◌}
use mathlib.Core.Path.{◌≡◌, refl, sym, ◌∙◌, ap}
use mathlib.Core.List.{List}
use native.Mathlib.Omega.{arith}
use lib.ListN.{length}
use lib.IntN.{ℤ}
use Rattle.lifting.specs.Program.{get, put, undo}
use Rattle.lifting.proofs.Between.{all_map}
use Rattle.lifting.proofs.Locality.{agree_refl, get-same, put_keeps}
use Rattle.figures.specs.Figures.{square_filter}
use Rattle.picture.specs.declared.size.Size.{Size}
use Rattle.transform.specs.Level.{square, square_filter_at}
use Rattle.transform.proofs.Cells.{InCell, square_filter_in_cell}
use Rattle.forward_four_windows.specs.Windows.{Windows}
use Rattle.forward_four_windows.proofs.Moved.{window-of}
use Rattle.forward_one_grid.specs.Held.{numbers, window}
use Rattle.forward_one_filters.specs.Windows.{filter_on}
use Rattle.forward_one_filters.proofs.Undoing.{Undoing, used, undoing_step}

pub sixteen : (w i : ℕ) (v : List ℤ) → length (get (square w i) v) ≡ 16
unfolding get square
sixteen w i v = refl

apart : (size : Size) (j i m : ℕ) (x v : List ℤ) → i + 1 < size.width.0 → m + 1 < size.width.0 → (m ≡ i → ⊥) → get (window size j m) (put (window size j i) x v) ≡ get (window size j m) v
apart size j i m x v h k o =
    let W = size.width.0 in
    get-same (InCell 2 W (j + 1) (m + 1)) (window size j m) (square_filter_in_cell W j m (omega arith))
    (put_keeps (InCell 2 W (j + 1) (m + 1)) (window size j i) x
    (all_map {P = InCell 2 W (j + 1) (i + 1)} {Q = λ p. ¬ (InCell 2 W (j + 1) (m + 1) p)} (window size j i) (λ p a b. o (omega (arith, a.column, b.column))) (square_filter_in_cell W j i (omega arith)))
    agree_refl)

-- windows undone from one array into another
pub undone_of : (held old out x : List ℤ) (l : ℕ) → l < 4 → Windows held 16 0 0 old out → get (square 16 (4 * l)) held ≡ x → get (square 72 (4 * l)) out ≡ undo square_filter x
undone_of held old out x l h d f =
    ap (λ (k : ℕ). get (square 72 k) out) (sym from_zero) ∙ window-of held 16 0 0 d l h ∙ ap (λ (k : ℕ). undo square_filter (get (square 16 k) held)) from_zero ∙ ap (undo square_filter) f
  where
    from_zero : 0 + 4 * l ≡ 4 * l
    from_zero = omega arith

-- ---- n windows stored from the last to the first: those below l are as they were, and are still to be undone

pub record Storing (size : Size) (j i n : ℕ) (dc₀ low₀ dc low : List ℤ) (l : ℕ) : Type 0 where
  pub undoing : Undoing size (λ m. filter_on size j (i + m)) n dc₀ low₀ dc low l
  pub same : (m : ℕ) → m < l → get (window size j (i + m)) (numbers size dc low) ≡ get (window size j (i + m)) (numbers size dc₀ low₀)

pub storing_step : {size : Size} {j i n l : ℕ} {dc₀ low₀ dc low dc' low' : List ℤ} (x : List ℤ) → i + n < size.width.0 → 0 < l → Storing size j i n dc₀ low₀ dc low l
    → length dc' ≡ length dc → length low' ≡ length low → x ≡ undo square_filter (get (window size j (i + (l - 1))) (numbers size dc₀ low₀))
    → numbers size dc' low' ≡ put (window size j (i + (l - 1))) x (numbers size dc low) → Storing size j i n dc₀ low₀ dc' low' (l - 1)
unfolding square_filter_at
storing_step {size} {j} {i} {n} {l} x wide h s a b e f =
    record {
      undoing = undoing_step s.undoing h a b (used _ _ _ _ _ _ _ refl (e ∙ ap (undo square_filter) (sym (s.same (l - 1) (omega arith)))) f);
      same = λ m k.
          ap (get (window size j (i + m))) f
          ∙ apart size j (i + (l - 1)) (i + m) x _ (omega (arith, s.undoing.within)) (omega (arith, s.undoing.within)) (λ q. absurd (omega (arith, q)))
          ∙ s.same m (omega arith);
    }
