-- The filters of two columns, row by row or column by column: each does nothing on the places of the other, so both orders leave the same there.
use Prim.Native.Nat.{ℕ, ◌+◌, ◌-◌, ◌*◌, ◌%◌, ◌<◌}
use mathlib.Core.Path.{◌≡◌, refl, sym, ◌∙◌, ap}
use mathlib.Core.Logic.{by_cases}
use mathlib.Core.List.{List}
use native.Mathlib.Omega.{arith}
use native.Mathlib.Decide.{ℕ_discrete}
use native.Mathlib.Nat.{add-mul}
use lib.Arith.{digits_mod}
use lib.ListN.{length}
use lib.IntN.{ℤ}
use Rattle.lifting.specs.Program.{Program, end, FourFilter, run, each, ◌then◌, run_by, undo_by}
use Rattle.lifting.proofs.Compose.{run_then, undo_then}
use Rattle.lifting.proofs.Between.{All, all_map, Like, none_left, like_all}
use Rattle.lifting.proofs.Locality.{Agree, agree_refl, use_inside, use_outside}
use Rattle.figures.specs.Figures.{four_filter}
use Rattle.transform.specs.Level.{cell, strip, four_filter_at, column_filters, along_edges}
use Rattle.transform.proofs.Cells.{all-strip}
use Rattle.picture.proofs.Table.{same_lists}
use Rattle.inverse_levels.proofs.Loops.{then_more}

-- a program of which one part does nothing
module _ {A : List ℤ → List ℤ → Type 0} (a b c : Program) where
  without_last : Like A a b → Like A c end → Like A (a then c) b
  unfolding run_by undo_by
  without_last f g = record { runs = λ v w h. rw (run_then a c v) (g.runs _ _ (f.runs v w h)); undoes = λ v w h. rw (undo_then a c v) (f.undoes _ _ (g.undoes v w h)) }

  without-first : Like A a end → Like A c b → Like A (a then c) b
  unfolding run_by undo_by
  without-first f g = record { runs = λ v w h. rw (run_then a c v) (g.runs _ _ (f.runs v w h)); undoes = λ v w h. rw (undo_then a c v) (f.undoes _ _ (g.undoes v w h)) }

-- two lines of uses, the one inside a set of places and the other outside
module _ (P : ℕ → Type 0) (known : (i : ℕ) → Dec (P i)) (n : ℕ) (f g : ℕ → Program)
    (f-in : (k : ℕ) → Like (Agree P) (f k) (f k)) (g-out : (k : ℕ) → Like (Agree P) (g k) end)
    (f-out : (k : ℕ) → Like (Agree (λ i. ¬ P i)) (f k) end) (g-in : (k : ℕ) → Like (Agree (λ i. ¬ P i)) (g k) (g k)) where
  inside : (v : List ℤ) → Agree P (run (each n (λ k. f k then g k)) v) (run (each n f) v)
  inside v = (like_all (Agree P) n (λ k. f k then g k) f (λ k h. without_last (f k) (f k) (g k) (f-in k) (g-out k))).runs v v agree_refl

  inside_apart : (v : List ℤ) → Agree P (run (each n f then each n g) v) (run (each n f) v)
  inside_apart v = (without_last (each n f) (each n f) (each n g) (like_all (Agree P) n f f (λ k h. f-in k)) (none_left (Agree P) n g (λ k h. g-out k))).runs v v agree_refl

  outside : (v : List ℤ) → Agree (λ i. ¬ P i) (run (each n (λ k. f k then g k)) v) (run (each n g) v)
  outside v = (like_all (Agree (λ i. ¬ P i)) n (λ k. f k then g k) g (λ k h. without-first (f k) (g k) (g k) (f-out k) (g-in k))).runs v v agree_refl

  outside_apart : (v : List ℤ) → Agree (λ i. ¬ P i) (run (each n f then each n g) v) (run (each n g) v)
  outside_apart v =
      (without-first (each n f) (each n g) (each n g) (none_left (Agree (λ i. ¬ P i)) n f (λ k h. f-out k)) (like_all (Agree (λ i. ¬ P i)) n g g (λ k h. g-in k))).runs v v agree_refl

  side_by_side : (v : List ℤ) → run (each n (λ k. f k then g k)) v ≡ run (each n f then each n g) v
  side_by_side v =
      same_lists (length (run (each n f) v)) _ _ (inside v).len (inside_apart v).len
      (λ i h. by_cases (known i) (λ t. (inside v).same i t ∙ sym ((inside_apart v).same i t)) (λ o. (outside v).same i o ∙ sym ((outside_apart v).same i o)))

-- four places down column c
in_column : (p r c i : ℕ) → c < 4 * p → i ≡ cell p r c → All (λ k. k % (4 * p) ≡ c) (strip (4 * p) i)
in_column p r c i h e =
    all-strip (λ k. k % (4 * p) ≡ c) (4 * p) i (column r e) (column (r + 1) e1) (column (r + 1 + 1) e2) (column (r + 1 + 1 + 1) e3)
  where
    column : (r : ℕ) {k : ℕ} → k ≡ cell p r c → k % (4 * p) ≡ c
    column r q = rw (q, digits_mod r h) refl

    down : (r : ℕ) {k : ℕ} → k ≡ cell p r c → k + 4 * p ≡ cell p (r + 1) c
    down r q = rw (add-mul r 1 (4 * p)) (omega arith)

    e1 : i + 4 * p ≡ cell p (r + 1) c
    e1 = down r e

    e2 : i + 4 * p + 4 * p ≡ cell p (r + 1 + 1) c
    e2 = down (r + 1) e1

    e3 : i + 4 * p + 4 * p + 4 * p ≡ cell p (r + 1 + 1 + 1) c
    e3 = down (r + 1 + 1) e2

-- the filters of columns c and c + 1
pub columns_apart : (p n c : ℕ) → c + 1 < 4 * p → (v : List ℤ)
    → run (each n (λ j. four_filter_at (4 * p) (cell p (4 * j + 2) c) then four_filter_at (4 * p) (cell p (4 * j + 2) (c + 1)))) v
    ≡ run (each n (λ j. four_filter_at (4 * p) (cell p (4 * j + 2) c)) then each n (λ j. four_filter_at (4 * p) (cell p (4 * j + 2) (c + 1)))) v
unfolding four_filter_at
columns_apart p n c h =
    side_by_side (λ i. i % (4 * p) ≡ c) (λ i. ℕ_discrete (i % (4 * p)) c) n _ _ (λ j. use_inside _ FourFilter four_filter _ (first j))
    (λ j. use_outside _ FourFilter four_filter _ (others j))
    (λ j. use_outside _ FourFilter four_filter _ (all_map {P = λ i. i % (4 * p) ≡ c} {Q = λ i. ¬ (¬ (i % (4 * p) ≡ c))} (strip (4 * p) (cell p (4 * j + 2) c)) (λ i a b. b a) (first j)))
    (λ j. use_inside _ FourFilter four_filter _ (others j))
  where
    first : (j : ℕ) → All (λ i. i % (4 * p) ≡ c) (strip (4 * p) (cell p (4 * j + 2) c))
    first j = in_column p (4 * j + 2) c _ (omega arith) refl

    second : (j : ℕ) → All (λ i. i % (4 * p) ≡ c + 1) (strip (4 * p) (cell p (4 * j + 2) (c + 1)))
    second j = in_column p (4 * j + 2) (c + 1) _ h refl

    others : (j : ℕ) → All (λ i. ¬ (i % (4 * p) ≡ c)) (strip (4 * p) (cell p (4 * j + 2) (c + 1)))
    others j = all_map {P = λ i. i % (4 * p) ≡ c + 1} {Q = λ i. ¬ (i % (4 * p) ≡ c)} (strip (4 * p) (cell p (4 * j + 2) (c + 1))) (λ i a b. absurd (omega (arith, a, b))) (second j)

-- the two columns on the left, and then the two on the right
pub pairs_of_columns : (p q : ℕ) (v w : List ℤ) {u : List ℤ} → 0 < p → w ≡ run (column_filters p q 0 then column_filters p q 1) v
    → u ≡ run (column_filters p q (4 * p - 2) then column_filters p q (4 * p - 2 + 1)) w
    → u ≡ run (along_edges p (column_filters p q)) v
pairs_of_columns p q v w h a b =
    then_more (column_filters p q 0) _ v refl
    (then_more (column_filters p q 1) _ _ (a ∙ run_then (column_filters p q 0) (column_filters p q 1) v) (b ∙ ap (λ (c : ℕ). run (column_filters p q (4 * p - 2) then column_filters p q c) w) last))
  where
    last : 4 * p - 2 + 1 ≡ 4 * p - 1
    last = omega arith
