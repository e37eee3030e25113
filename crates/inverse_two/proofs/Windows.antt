-- Rows of windows that run apart: inside the rows of samples that they cover they do what all square filters of the level do, and outside nothing.
use Prim.Native.Nat.{ℕ, ◌+◌, ◌-◌, ◌*◌, ◌/◌, ◌≤◌, ◌<◌}
use mathlib.Core.Path.{◌≡◌, sym}
use mathlib.Core.Bool.{Bool, true, false}
use mathlib.Core.List.{List}
use native.Mathlib.Omega.{arith}
use lib.IntN.{ℤ}
use Rattle.lifting.specs.Program.{Program, end, SquareFilter, at, run, each, run_by}
use Rattle.lifting.proofs.Between.{all_map, Like, none_left, like_all, like_each}
use Rattle.lifting.proofs.Locality.{Agree, agree_refl, use_inside, use_outside}
use Rattle.figures.specs.Figures.{square_filter}
use Rattle.transform.specs.Level.{cell, square, square_filter_at, square_filters}
use Rattle.transform.proofs.Cells.{square_filter_in_cell}
use Rattle.inverse_levels.specs.Stages.{window_row, windows_if}

-- all square filters of the level
abbrev pub squares_if : Bool → ℕ → ℕ → Program
squares_if true p q = square_filters p q
squares_if false p q = end

-- the place i lies in the rows of samples that the windows of rows b to below e cover
abbrev pub Rows : ℕ → ℕ → ℕ → ℕ → Type 0
Rows p b e i = (4 * b + 2 ≤ i / (4 * p)) × (i / (4 * p) < 4 * e + 2)

turned : {P : ℕ → Type 0} {a : Program} → Like (Agree P) a end → Like (Agree P) end a
unfolding run_by
turned {P} {a} f = record { runs = λ v w h. back (f.runs w v (back h)); undoes = λ v w h. back (f.undoes w v (back h)) }
  where
    back : {x y : List ℤ} → Agree P x y → Agree P y x
    back h = record { len = sym h.len; same = λ j t. sym (h.same j t) }

module _ (P : ℕ → Type 0) (p j : ℕ) where
  row_inside : ((i : ℕ) → (i / (4 * p) + 2) / 4 ≡ j + 1 → P i) → Like (Agree P) (window_row p j) (window_row p j)
  unfolding square_filter_at
  row_inside h =
      like_all (Agree P) (p - 1) _ _
      (λ i l. let its = square (4 * p) (cell p (4 * j + 2) (4 * i + 2)) in use_inside P SquareFilter square_filter its (all_map its (λ k c. h k c.row) (square_filter_in_cell p j i l)))

  row-outside : ((i : ℕ) → (i / (4 * p) + 2) / 4 ≡ j + 1 → ¬ P i) → Like (Agree P) (window_row p j) end
  unfolding square_filter_at
  row-outside h =
      none_left (Agree P) (p - 1) _
      (λ i l. let its = square (4 * p) (cell p (4 * j + 2) (4 * i + 2)) in use_outside P SquareFilter square_filter its (all_map its (λ k c. h k c.row) (square_filter_in_cell p j i l)))

module _ (p q b n : ℕ) (room : b + n < q) where
  rows_like : Like (Agree (Rows p b (b + n))) (each n (λ k. window_row p (b + k))) (square_filters p q)
  unfolding square_filters
  rows_like =
      like_each (Agree (Rows p b (b + n))) b n (q - 1) (λ k. window_row p (b + k)) (window_row p) (omega arith)
      (λ k h. row_inside (Rows p b (b + n)) p (b + k) (λ i e. (omega arith, omega arith)))
      (λ k h o. turned (row-outside (Rows p b (b + n)) p k (λ i e z. o (omega arith) (omega arith))))

  pub windows-same : (filtered : Bool) {v w : List ℤ} → Agree (Rows p b (b + n)) v w → (i : ℕ) → Rows p b (b + n) i → at (run (windows_if filtered p b n) v) i ≡ at (run (squares_if filtered p q) w) i
  unfolding run_by
  windows-same true a i h = (rows_like.runs _ _ a).same i h
  windows-same false a i h = a.same i h

pub windows_off : (filtered : Bool) (p b n : ℕ) (v : List ℤ) → Agree (λ i. ¬ Rows p b (b + n) i) (run (windows_if filtered p b n) v) v
unfolding run_by
windows_off true p b n v =
    (none_left (Agree (λ i. ¬ Rows p b (b + n) i)) n (λ k. window_row p (b + k)) (λ k h. row-outside (λ i. ¬ Rows p b (b + n) i) p (b + k) (λ i e z. z (omega arith, omega arith)))).runs v v agree_refl
windows_off false p b n v = agree_refl

pub squares_off : (filtered : Bool) (p q : ℕ) (v : List ℤ) → Agree (λ i. ¬ ((2 ≤ i / (4 * p)) × (i / (4 * p) + 2 < 4 * q))) (run (squares_if filtered p q) v) v
unfolding run_by square_filters
squares_off true p q v =
    (none_left (Agree (λ i. ¬ ((2 ≤ i / (4 * p)) × (i / (4 * p) + 2 < 4 * q)))) (q - 1) (window_row p)
    (λ k h. row-outside (λ i. ¬ ((2 ≤ i / (4 * p)) × (i / (4 * p) + 2 < 4 * q))) p k (λ i e z. z (omega arith, omega arith)))).runs v v agree_refl
squares_off false p q v = agree_refl
