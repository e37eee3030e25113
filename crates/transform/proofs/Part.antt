-- A grid of p squares across as the columns of squares k to k + p - 1 of a grid of P squares across: a stage does the same in both,
-- inside any set of cells for the cores, and for the filters inside any set of cells that leaves out those that cross a seam.
use Prim.Native.Nat.{ℕ, ◌+◌, ◌-◌, ◌*◌, ◌/◌, ◌%◌, ◌≤◌, ◌<◌}
use mathlib.Core.Path.{◌≡◌, refl, sym, ◌∙◌, ap, ap₂, subst}
use mathlib.Core.Logic.{by_cases}
use mathlib.Core.List.{List, ◌++◌}
use native.Mathlib.Omega.{arith}
use native.Mathlib.Decide.{ℕ_discrete}
use native.Mathlib.Nat.{add-mul}
use lib.Arith.{digits_div, digits_mod}
use Rattle.lifting.specs.Program.{Program, end, apply, ◌then◌, Operator, Core, SquareFilter, FourFilter}
use Rattle.figures.specs.Figures.{core, square_filter, four_filter}
use Rattle.transform.specs.Level.{cell, strip, square, corner, core_at, square_filter_at, four_filter_at, corner_filter_at, cores, square_filters, row_filters, column_filters, corner_filters, filters}
use Rattle.transform.proofs.Cells.{zone, InCell, core_in_cell, square_filter_in_cell, row_filter_in_cell, column_filter_in_cell, corner_filter_in_cell}
use Rattle.lifting.proofs.Between.{All, all_map, Pairing, OneToOne, Pairs, FreeLeft, FreeRight, Alike, Like, pairs-append, like_then, free_left, free_right, both_free, like_all, like_each, like-use}

-- row r, column c of the small grid and row r, column 4 * k + c of the wide one, in a cell of Q
pub record Twin (d p k P q : ℕ) (Q : ℕ → ℕ → Type 0) (i j : ℕ) : Type 0 where
  pub row : ℕ
  pub column : ℕ
  pub low : row < 4 * q
  pub narrow : column < 4 * p
  pub small : i ≡ cell p row column
  pub wide : j ≡ cell P row (4 * k + column)
  pub within : Q (zone d row) (zone d column)

same-cell : (p r s c e : ℕ) → c < 4 * p → e < 4 * p → cell p r c ≡ cell p s e → (r ≡ s) × (c ≡ e)
same-cell p r s c e h k f =
    (sym (digits_div r h) ∙ ap (λ (n : ℕ). n / (4 * p)) f ∙ digits_div s k, sym (digits_mod r h) ∙ ap (λ (n : ℕ). n % (4 * p)) f ∙ digits_mod s k)

down : (w r c i : ℕ) → i ≡ r * w + c → i + w ≡ (r + 1) * w + c
down w r c i e = rw (add-mul r 1 w) (omega arith)

pairs-strip : (R : Pairing) (s t i j : ℕ) → R i j → R (i + s) (j + t) → R (i + s + s) (j + t + t) → R (i + s + s + s) (j + t + t + t) → Pairs R (strip s i) (strip t j)
pairs-strip R s t i j h k l m = (h, (k, (l, (m, tt))))

pairs-square : (R : Pairing) (v w i j : ℕ) → Pairs R (strip 1 i) (strip 1 j) → Pairs R (strip 1 (i + v)) (strip 1 (j + w)) → Pairs R (strip 1 (i + v + v)) (strip 1 (j + w + w))
    → Pairs R (strip 1 (i + v + v + v)) (strip 1 (j + w + w + w)) → Pairs R (square v i) (square w j)
unfolding square
pairs-square R v w i j h k l m =
    let third = strip 1 (i + v + v) in
    let fourth = strip 1 (i + v + v + v) in
    let third' = strip 1 (j + w + w) in
    let fourth' = strip 1 (j + w + w + w) in
    pairs-append R (strip 1 i) (strip 1 j) (strip 1 (i + v) ++ third ++ fourth) (strip 1 (j + w) ++ third' ++ fourth') h
    (pairs-append R (strip 1 (i + v)) (strip 1 (j + w)) (third ++ fourth) (third' ++ fourth') k (pairs-append R third third' fourth fourth' l m))

module _ (d p k P q : ℕ) (fits : k + p ≤ P) (Q : ℕ → ℕ → Type 0) where
  abbrev Twins : Pairing
  Twins = Twin d p k P q Q

  one_to_one : OneToOne Twins
  one_to_one = record { to = to; from = from }
    where
      to : {i j l : ℕ} → Twins i j → Twins i l → j ≡ l
      to a b =
          let e = same-cell p a.row b.row a.column b.column a.narrow b.narrow (sym a.small ∙ b.small) in
          a.wide ∙ ap₂ (λ r c. cell P r (4 * k + c)) e.0 e.1 ∙ sym b.wide

      from : {i j l : ℕ} → Twins i l → Twins j l → i ≡ j
      from a b =
          let e = same-cell P a.row b.row (4 * k + a.column) (4 * k + b.column) (omega (arith, a.narrow, fits)) (omega (arith, b.narrow, fits)) (sym a.wide ∙ b.wide) in
          let f : a.column ≡ b.column = omega (arith, e.1) in
          a.small ∙ ap₂ (cell p) e.0 f ∙ sym b.small

  -- uses that no use of the other grid matches
  free_small : (a b : ℕ) (ps : List ℕ) → ¬ Q a b → All (InCell d p a b) ps → FreeLeft Twins ps
  free_small a b ps n = all_map ps (λ i m j t.
      n (subst (λ (x : ℕ). Q x b) (sym (digits-row i t) ∙ m.row) (subst (λ (y : ℕ). Q (zone d t.row) y) (sym (digits-column i t) ∙ m.column) t.within)))
    where
      digits-row : (i : ℕ) {j : ℕ} (t : Twins i j) → zone d (i / (4 * p)) ≡ zone d t.row
      digits-row i t = rw (t.small, digits_div t.row t.narrow)

      digits-column : (i : ℕ) {j : ℕ} (t : Twins i j) → zone d (i % (4 * p)) ≡ zone d t.column
      digits-column i t = rw (t.small, digits_mod t.row t.narrow)

  free_wide : (a b : ℕ) (qs : List ℕ) → ((c : ℕ) → 4 * c < 4 * p + d → k + c ≡ b → ¬ Q a c) → All (InCell d P a b) qs → FreeRight Twins qs
  free_wide a b qs n = all_map qs (λ j m i t.
      n (zone d t.column) (omega (arith, t.narrow)) (sym (digits-column j t) ∙ m.column)
      (subst (λ (x : ℕ). Q x (zone d t.column)) (sym (digits-row j t) ∙ m.row) t.within))
    where
      inside : {i j : ℕ} (t : Twins i j) → 4 * k + t.column < 4 * P
      inside t = omega (arith, t.narrow, fits)

      digits-row : (j : ℕ) {i : ℕ} (t : Twins i j) → zone d (j / (4 * P)) ≡ zone d t.row
      digits-row j t = rw (t.wide, digits_div t.row (inside t))

      digits-column : (j : ℕ) {i : ℕ} (t : Twins i j) → zone d (j % (4 * P)) ≡ k + zone d t.column
      digits-column j t = rw (t.wide, digits_mod t.row (inside t)) (omega arith)

  -- places in one cell of Q
  module _ (a b : ℕ) (has : Q a b) where
    twin : (r c : ℕ) {i j : ℕ} → i ≡ cell p r c → j ≡ cell P r (4 * k + c) → r < 4 * q → c < 4 * p → zone d r ≡ a → zone d c ≡ b → Twins i j
    twin r c e f l h x y = record { row = r; column = c; low = l; narrow = h; small = e; wide = f; within = rw (x, y) has }

    twins-across : (r c i j : ℕ) → i ≡ cell p r c → j ≡ cell P r (4 * k + c) → r < 4 * q → c + 3 < 4 * p → zone d r ≡ a → zone d c ≡ b → zone d (c + 3) ≡ b
        → Pairs Twins (strip 1 i) (strip 1 j)
    twins-across r c i j e f l h x y z =
        pairs-strip Twins 1 1 i j
        (twin r c e f l (omega arith) x y)
        (twin r (c + 1) (omega arith) (omega arith) l (omega arith) x (omega arith))
        (twin r (c + 2) (omega arith) (omega arith) l (omega arith) x (omega arith))
        (twin r (c + 3) (omega arith) (omega arith) l h x z)

    twins-down : (r c i j : ℕ) → i ≡ cell p r c → j ≡ cell P r (4 * k + c) → r + 3 < 4 * q → c < 4 * p → zone d r ≡ a → zone d (r + 3) ≡ a → zone d c ≡ b
        → Pairs Twins (strip (4 * p) i) (strip (4 * P) j)
    twins-down r c i j e f l h x y z =
        let e1 = down (4 * p) r c i e in
        let e2 = down (4 * p) (r + 1) c (i + 4 * p) e1 in
        let e3 = down (4 * p) (r + 1 + 1) c (i + 4 * p + 4 * p) e2 in
        let f1 = down (4 * P) r (4 * k + c) j f in
        let f2 = down (4 * P) (r + 1) (4 * k + c) (j + 4 * P) f1 in
        let f3 = down (4 * P) (r + 1 + 1) (4 * k + c) (j + 4 * P + 4 * P) f2 in
        pairs-strip Twins (4 * p) (4 * P) i j
        (twin r c e f (omega arith) h x z)
        (twin (r + 1) c e1 f1 (omega arith) h (omega arith) z)
        (twin (r + 1 + 1) c e2 f2 (omega arith) h (omega arith) z)
        (twin (r + 1 + 1 + 1) c e3 f3 (omega arith) h (omega arith) z)

    twin-corners : (r c i j : ℕ) → i ≡ cell p r c → j ≡ cell P r (4 * k + c) → r + 1 < 4 * q → c + 1 < 4 * p → zone d r ≡ a → zone d (r + 1) ≡ a → zone d c ≡ b → zone d (c + 1) ≡ b
        → Pairs Twins (corner (4 * p) i) (corner (4 * P) j)
    twin-corners r c i j e f l h x y z u =
        let e1 = down (4 * p) r c i e in
        let f1 = down (4 * P) r (4 * k + c) j f in (
          twin r c e f (omega arith) (omega arith) x z,
          (
            twin r (c + 1) (omega arith) (omega arith) (omega arith) h x u,
            (
              twin (r + 1) c e1 f1 l (omega arith) y z,
              (twin (r + 1) (c + 1) (omega arith) (omega arith) l h y u, tt),
            ),
          ),
        )

    twin-squares : (r c i j : ℕ) → i ≡ cell p r c → j ≡ cell P r (4 * k + c) → r + 3 < 4 * q → c + 3 < 4 * p → zone d r ≡ a → zone d (r + 3) ≡ a → zone d c ≡ b → zone d (c + 3) ≡ b
        → Pairs Twins (square (4 * p) i) (square (4 * P) j)
    twin-squares r c i j e f l h x y z u =
        let e1 = down (4 * p) r c i e in
        let e2 = down (4 * p) (r + 1) c (i + 4 * p) e1 in
        let e3 = down (4 * p) (r + 1 + 1) c (i + 4 * p + 4 * p) e2 in
        let f1 = down (4 * P) r (4 * k + c) j f in
        let f2 = down (4 * P) (r + 1) (4 * k + c) (j + 4 * P) f1 in
        let f3 = down (4 * P) (r + 1 + 1) (4 * k + c) (j + 4 * P + 4 * P) f2 in
        pairs-square Twins (4 * p) (4 * P) i j
        (twins-across r c i j e f (omega arith) h x z u)
        (twins-across (r + 1) c (i + 4 * p) (j + 4 * P) e1 f1 (omega arith) h (omega arith) z u)
        (twins-across (r + 1 + 1) c (i + 4 * p + 4 * p) (j + 4 * P + 4 * P) e2 f2 (omega arith) h (omega arith) z u)
        (twins-across (r + 1 + 1 + 1) c (i + 4 * p + 4 * p + 4 * p) (j + 4 * P + 4 * P + 4 * P) e3 f3 (omega arith) h (omega arith) z u)

  -- a use in a cell of the small grid against the same use in the wide one
  use_matched : (a b : ℕ) (o : Operator) (s : Program) (ps qs : List ℕ) → Dec (Q a b) → All (InCell d p a b) ps → All (InCell d P a (k + b)) qs
      → (Q a b → Pairs Twins ps qs) → Like (Alike Twins) (apply o s ps end) (apply o s qs end)
  use_matched a b o s ps qs (yes h) l r f = like-use Twins one_to_one o s ps qs (f h)
  use_matched a b o s ps qs (no n) l r f =
      both_free (Alike Twins) (apply o s ps end) (apply o s qs end)
      (free_left Twins o s ps (free_small a b ps n l))
      (free_right Twins o s qs (free_wide a (k + b) qs (λ c h e. let f : c ≡ b = omega arith in subst (λ (x : ℕ). ¬ Q a x) (sym f) n) r))

  use_free : (a b : ℕ) (o : Operator) (s : Program) (qs : List ℕ) → All (InCell d P a b) qs → ((c : ℕ) → 4 * c < 4 * p + d → k + c ≡ b → ¬ Q a c)
      → Like (Alike Twins) end (apply o s qs end)
  use_free a b o s qs r n = free_right Twins o s qs (free_wide a b qs n r)

-- ---- the cores

module _ (p k P q : ℕ) (fits : k + p ≤ P) (Q : ℕ → ℕ → Type 0) (decide : (a b : ℕ) → Dec (Q a b)) where
  abbrev CoreTwins : Pairing
  CoreTwins = Twin 0 p k P q Q

  core_matched : (j i : ℕ) → j < q → i < p → Like (Alike CoreTwins) (core_at (4 * p) (cell p (4 * j) (4 * i))) (core_at (4 * P) (cell P (4 * j) (4 * (k + i))))
  unfolding core_at
  core_matched j i l h =
      use_matched 0 p k P q fits Q j i Core core _ _ (decide j i) (core_in_cell p j i h) (core_in_cell P j (k + i) (omega arith))
      (λ has. twin-squares 0 p k P q fits Q j i has (4 * j) (4 * i) _ _ refl (omega arith) (omega arith) (omega arith) (omega arith) (omega arith) (omega arith) (omega arith))

  core_free : (j i : ℕ) → i < P → (k ≤ i → i < k + p → ⊥) → Like (Alike CoreTwins) end (core_at (4 * P) (cell P (4 * j) (4 * i)))
  unfolding core_at
  core_free j i h n = use_free 0 p k P q fits Q j i Core core _ (core_in_cell P j i h) (λ c l e has. n (omega arith) (omega arith))

  pub cores_like : Like (Alike (Twin 0 p k P q Q)) (cores p q) (cores P q)
  unfolding cores
  cores_like = like_all (Alike CoreTwins) q _ _ (λ j l. like_each (Alike CoreTwins) k p P _ _ fits (λ i h. core_matched j i l h) (λ i h n. core_free j i h n))

-- ---- the filters

module _ (p k P q : ℕ) (fits : k + p ≤ P) (Q : ℕ → ℕ → Type 0) (decide : (a b : ℕ) → Dec (Q a b)) (some : 0 < p) (tall : 0 < q)
    (no-left : 0 < k → (a : ℕ) → ¬ Q a 0) (no-right : k + p < P → (a : ℕ) → ¬ Q a p) where
  abbrev FilterTwins : Pairing
  FilterTwins = Twin 2 p k P q Q

  -- cells of the wide grid across a seam or beyond it
  beyond : (a i c : ℕ) → i < P - 1 → (k ≤ i → i < k + (p - 1) → ⊥) → 4 * c < 4 * p + 2 → k + c ≡ i + 1 → ¬ Q a c
  beyond a i c h n l e has =
      by_cases (ℕ_discrete c 0)
      (λ f. no-left (omega (arith, f)) a (subst (Q a) f has))
      (λ o. by_cases (ℕ_discrete c p) (λ f. no-right (omega (arith, f)) a (subst (Q a) f has)) (λ u. n (omega (arith, o)) (omega (arith, u))))

  square_matched : (j i : ℕ) → j < q - 1 → i < p - 1
      → Like (Alike FilterTwins) (square_filter_at (4 * p) (cell p (4 * j + 2) (4 * i + 2))) (square_filter_at (4 * P) (cell P (4 * j + 2) (4 * (k + i) + 2)))
  unfolding square_filter_at
  square_matched j i l h =
      use_matched 2 p k P q fits Q (j + 1) (i + 1) SquareFilter square_filter _ _ (decide (j + 1) (i + 1)) (square_filter_in_cell p j i h)
      (subst (λ (b : ℕ). All (InCell 2 P (j + 1) b) (square (4 * P) (cell P (4 * j + 2) (4 * (k + i) + 2)))) (omega arith) (square_filter_in_cell P j (k + i) (omega arith)))
      (λ has. twin-squares 2 p k P q fits Q (j + 1) (i + 1) has (4 * j + 2) (4 * i + 2) _ _ refl (omega arith) (omega arith) (omega arith) (omega arith) (omega arith) (omega arith) (omega arith))

  square_free : (j i : ℕ) → i < P - 1 → (k ≤ i → i < k + (p - 1) → ⊥) → Like (Alike FilterTwins) end (square_filter_at (4 * P) (cell P (4 * j + 2) (4 * i + 2)))
  unfolding square_filter_at
  square_free j i h n =
      use_free 2 p k P q fits Q (j + 1) (i + 1) SquareFilter square_filter _ (square_filter_in_cell P j i h) (λ c l e. beyond (j + 1) i c h n l e)

  squares_like : Like (Alike FilterTwins) (square_filters p q) (square_filters P q)
  unfolding square_filters
  squares_like =
      like_all (Alike FilterTwins) (q - 1) _ _ (λ j l.
      like_each (Alike FilterTwins) k (p - 1) (P - 1) _ _ (omega arith) (λ i h. square_matched j i l h) (λ i h n. square_free j i h n))

  row_matched : (r i : ℕ) → r < 4 * q → i < p - 1 → Like (Alike FilterTwins) (four_filter_at 1 (cell p r (4 * i + 2))) (four_filter_at 1 (cell P r (4 * (k + i) + 2)))
  unfolding four_filter_at
  row_matched r i l h =
      use_matched 2 p k P q fits Q (zone 2 r) (i + 1) FourFilter four_filter _ _ (decide (zone 2 r) (i + 1)) (row_filter_in_cell p r i h)
      (subst (λ (b : ℕ). All (InCell 2 P (zone 2 r) b) (strip 1 (cell P r (4 * (k + i) + 2)))) (omega arith) (row_filter_in_cell P r (k + i) (omega arith)))
      (λ has. twins-across 2 p k P q fits Q (zone 2 r) (i + 1) has r (4 * i + 2) _ _ refl (omega arith) l (omega arith) refl (omega arith) (omega arith))

  row_free : (r i : ℕ) → i < P - 1 → (k ≤ i → i < k + (p - 1) → ⊥) → Like (Alike FilterTwins) end (four_filter_at 1 (cell P r (4 * i + 2)))
  unfolding four_filter_at
  row_free r i h n =
      use_free 2 p k P q fits Q (zone 2 r) (i + 1) FourFilter four_filter _ (row_filter_in_cell P r i h) (λ c l e. beyond (zone 2 r) i c h n l e)

  rows_like : (r : ℕ) → r < 4 * q → Like (Alike FilterTwins) (row_filters p r) (row_filters P r)
  unfolding row_filters
  rows_like r l = like_each (Alike FilterTwins) k (p - 1) (P - 1) _ _ (omega arith) (λ i h. row_matched r i l h) (λ i h n. row_free r i h n)

  column_matched : (c j : ℕ) → c < 4 * p → j < q - 1
      → Like (Alike FilterTwins) (four_filter_at (4 * p) (cell p (4 * j + 2) c)) (four_filter_at (4 * P) (cell P (4 * j + 2) (4 * k + c)))
  unfolding four_filter_at
  column_matched c j h l =
      use_matched 2 p k P q fits Q (j + 1) (zone 2 c) FourFilter four_filter _ _ (decide (j + 1) (zone 2 c)) (column_filter_in_cell p c j h)
      (subst (λ (b : ℕ). All (InCell 2 P (j + 1) b) (strip (4 * P) (cell P (4 * j + 2) (4 * k + c)))) (omega arith) (column_filter_in_cell P (4 * k + c) j (omega arith)))
      (λ has. twins-down 2 p k P q fits Q (j + 1) (zone 2 c) has (4 * j + 2) c _ _ refl refl (omega arith) h (omega arith) (omega arith) refl)

  columns_matched : (c e : ℕ) → c < 4 * p → 4 * k + c ≡ e → Like (Alike FilterTwins) (column_filters p q c) (column_filters P q e)
  unfolding column_filters
  columns_matched c e h f = like_all (Alike FilterTwins) (q - 1) _ _ (λ j l. rw (← f) (column_matched c j h l))

  -- four places of the small grid in a cell across a seam, and four of the wide grid in a cell beyond it
  fours_free : (a b e : ℕ) (ps qs : List ℕ) → ¬ Q a b → ((x : ℕ) → 4 * x < 4 * p + 2 → k + x ≡ e → ⊥) → All (InCell 2 p a b) ps → All (InCell 2 P a e) qs
      → Like (Alike FilterTwins) (apply FourFilter four_filter ps end) (apply FourFilter four_filter qs end)
  fours_free a b e ps qs n o l r =
      both_free (Alike FilterTwins) _ _ (free_left FilterTwins FourFilter four_filter ps (free_small 2 p k P q fits Q a b ps n l))
      (use_free 2 p k P q fits Q a e FourFilter four_filter qs r (λ x y f has. o x y f))

  -- a column of the small grid that lies at a seam, and one of the wide grid beyond it
  columns_free : (c e b : ℕ) → c < 4 * p → e < 4 * P → zone 2 c ≡ b → ((a : ℕ) → ¬ Q a b) → ((x : ℕ) → 4 * x < 4 * p + 2 → k + x ≡ zone 2 e → ⊥)
      → Like (Alike FilterTwins) (column_filters p q c) (column_filters P q e)
  unfolding column_filters four_filter_at
  columns_free c e b h m z n o =
      like_all (Alike FilterTwins) (q - 1) _ _ (λ j l.
      fours_free (j + 1) (zone 2 c) (zone 2 e) (strip (4 * p) (cell p (4 * j + 2) c)) (strip (4 * P) (cell P (4 * j + 2) e)) (rw z (n (j + 1))) o (column_filter_in_cell p c j h) (column_filter_in_cell P e j m))

  left_columns : (c : ℕ) → c < 2 → Like (Alike FilterTwins) (column_filters p q c) (column_filters P q c)
  left_columns c h =
      by_cases (ℕ_discrete k 0)
      (λ e. columns_matched c c (omega arith) (omega (arith, e)))
      (λ o. columns_free c c 0 (omega arith) (omega arith) (omega arith) (no-left (omega (arith, o))) (λ x l e. omega (arith, o)))

  right_columns : (c : ℕ) → 1 ≤ c → c ≤ 2 → Like (Alike FilterTwins) (column_filters p q (4 * p - c)) (column_filters P q (4 * P - c))
  right_columns c h l =
      by_cases (ℕ_discrete (k + p) P)
      (λ e. columns_matched (4 * p - c) (4 * P - c) (omega arith) (omega (arith, e)))
      (λ o. columns_free (4 * p - c) (4 * P - c) p (omega arith) (omega arith) (omega arith) (no-right (omega (arith, o))) (λ x m e. omega (arith, o)))

  both : {a b c d : Program} → Like (Alike FilterTwins) a c → Like (Alike FilterTwins) b d → Like (Alike FilterTwins) (a then b) (c then d)
  both {a} {b} {c} {d} f g = like_then (Alike FilterTwins) a b c d f g

  -- the corners in rows r and r + 1, which lie in one cell
  module _ (r : ℕ) (low : r + 1 < 4 * q) (one : zone 2 (r + 1) ≡ zone 2 r) where
    corner-matched : (c e : ℕ) → c + 1 < 4 * p → zone 2 (c + 1) ≡ zone 2 c → 4 * k + c ≡ e → Like (Alike FilterTwins) (corner_filter_at (4 * p) (cell p r c)) (corner_filter_at (4 * P) (cell P r e))
    unfolding corner_filter_at
    corner-matched c e h z f =
        rw (← f) (use_matched 2 p k P q fits Q (zone 2 r) (zone 2 c) FourFilter four_filter _ _ (decide (zone 2 r) (zone 2 c)) (corner_filter_in_cell p r c h one z)
        (subst (λ (b : ℕ). All (InCell 2 P (zone 2 r) b) (corner (4 * P) (cell P r (4 * k + c)))) (omega arith) (corner_filter_in_cell P r (4 * k + c) (omega arith) one (omega arith)))
        (λ has. twin-corners 2 p k P q fits Q (zone 2 r) (zone 2 c) has r c _ _ refl refl low h refl one refl z))

    corner-free : (c e b : ℕ) → c + 1 < 4 * p → e + 1 < 4 * P → zone 2 c ≡ b → zone 2 (c + 1) ≡ b → zone 2 (e + 1) ≡ zone 2 e → ((a : ℕ) → ¬ Q a b) → ((x : ℕ) → 4 * x < 4 * p + 2 → k + x ≡ zone 2 e → ⊥)
        → Like (Alike FilterTwins) (corner_filter_at (4 * p) (cell p r c)) (corner_filter_at (4 * P) (cell P r e))
    unfolding corner_filter_at
    corner-free c e b h m z y w n o =
        fours_free (zone 2 r) (zone 2 c) (zone 2 e) (corner (4 * p) (cell p r c)) (corner (4 * P) (cell P r e)) (rw z (n (zone 2 r))) o (corner_filter_in_cell p r c h one (omega arith)) (corner_filter_in_cell P r e m one w)

    left-corner : Like (Alike FilterTwins) (corner_filter_at (4 * p) (cell p r 0)) (corner_filter_at (4 * P) (cell P r 0))
    left-corner =
        by_cases (ℕ_discrete k 0)
        (λ e. corner-matched 0 0 (omega arith) (omega arith) (omega (arith, e)))
        (λ o. corner-free 0 0 0 (omega arith) (omega arith) (omega arith) (omega arith) (omega arith) (no-left (omega (arith, o))) (λ x l e. omega (arith, o)))

    right-corner : Like (Alike FilterTwins) (corner_filter_at (4 * p) (cell p r (4 * p - 2))) (corner_filter_at (4 * P) (cell P r (4 * P - 2)))
    right-corner =
        by_cases (ℕ_discrete (k + p) P)
        (λ e. corner-matched (4 * p - 2) (4 * P - 2) (omega arith) (omega arith) (omega (arith, e)))
        (λ o. corner-free (4 * p - 2) (4 * P - 2) p (omega arith) (omega arith) (omega arith) (omega arith) (omega arith) (no-right (omega (arith, o))) (λ x m e. omega (arith, o)))

  pub filters_like : Like (Alike (Twin 2 p k P q Q)) (filters p q) (filters P q)
  unfolding filters corner_filters
  filters_like =
      both squares_like
      (both
      (both (rows_like 0 (omega arith)) (both (rows_like 1 (omega arith)) (both (rows_like (4 * q - 2) (omega arith)) (rows_like (4 * q - 1) (omega arith)))))
      (both
      (both (left_columns 0 (omega arith)) (both (left_columns 1 (omega arith)) (both (right_columns 2 (omega arith) (omega arith)) (right_columns 1 (omega arith) (omega arith)))))
      (both (left-corner 0 (omega arith) (omega arith)) (both (right-corner 0 (omega arith) (omega arith))
      (both (left-corner (4 * q - 2) (omega arith) (omega arith)) (right-corner (4 * q - 2) (omega arith) (omega arith)))))))
