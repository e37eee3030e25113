-- Each use of a filter is alone in its rectangle of the grid: all others lie in other rows or columns. So the filters undone are, there, that one use undone.
use Prim.Native.Nat.{ℕ, zero, suc, ◌+◌, ◌-◌, ◌*◌, ◌≤◌, ◌<◌}
use mathlib.Core.Path.{◌≡◌, refl, sym, ◌∙◌, ap, subst}
use mathlib.Core.Logic.{◌⊎◌, inl, inr, by_cases}
use native.Mathlib.Omega.{arith}
use native.Mathlib.Decide.{ℕ_discrete}
use native.Mathlib.Nat.{add-mul}
use lib.Arith.{digits_div, digits_mod}
use Rattle.lifting.specs.Program.{Program, end, apply, SquareFilter, FourFilter, ◌then◌}
use Rattle.lifting.proofs.Between.{All, none_left}
use Rattle.lifting.proofs.Locality.{Agree, use_inside, use_outside}
use Rattle.figures.specs.Figures.{square_filter, four_filter}
use Rattle.transform.specs.Level.{cell, strip, square, corner, square_filter_at, four_filter_at, corner_filter_at, square_filters, row_filters, column_filters, along_edges, corner_filters, filters}
use Rattle.transform.proofs.Cells.{all-strip, all-square}
use Rattle.transform.proofs.Alone.{Does, nothing_then, then_nothing, one_of}
use Rattle.forward_two_edges.specs.Unfiltered.{Rectangle, Edge, First}

-- ---- places of a use by row and column

module _ (p : ℕ) (P : ℕ → Type 0) where
  pub all_across : (r c : ℕ) → ((x : ℕ) → c ≤ x → x < c + 4 → P (cell p r x)) → All P (strip 1 (cell p r c))
  all_across r c h =
      all-strip P 1 (cell p r c) (h c (omega arith) (omega arith)) (there (c + 1) (omega arith) (omega arith) (omega arith)) (there (c + 2) (omega arith) (omega arith) (omega arith))
      (there (c + 3) (omega arith) (omega arith) (omega arith))
    where
      there : (x : ℕ) {i : ℕ} → cell p r x ≡ i → c ≤ x → x < c + 4 → P i
      there x e l m = subst P e (h x l m)

  next_row : (r c : ℕ) → cell p (r + 1) c ≡ cell p r c + 4 * p
  next_row r c = rw (add-mul r 1 (4 * p)) (omega arith)

  pub all_down : (r c : ℕ) → ((y : ℕ) → r ≤ y → y < r + 4 → P (cell p y c)) → All P (strip (4 * p) (cell p r c))
  all_down r c h =
      let e1 = next_row r c in
      let e2 = next_row (r + 1) c ∙ ap (λ (i : ℕ). i + 4 * p) e1 in
      let e3 = next_row (r + 1 + 1) c ∙ ap (λ (i : ℕ). i + 4 * p) e2 in
      all-strip P (4 * p) (cell p r c) (h r (omega arith) (omega arith)) (subst P e1 (h (r + 1) (omega arith) (omega arith)))
      (subst P e2 (h (r + 1 + 1) (omega arith) (omega arith))) (subst P e3 (h (r + 1 + 1 + 1) (omega arith) (omega arith)))

  pub all-corner : (r c : ℕ) → ((y x : ℕ) → r ≤ y → y < r + 2 → c ≤ x → x < c + 2 → P (cell p y x)) → All P (corner (4 * p) (cell p r c))
  all-corner r c h =
      let e = next_row r c in
      let right : cell p r (c + 1) ≡ cell p r c + 1 = omega arith in
      let below : cell p (r + 1) (c + 1) ≡ cell p r c + 4 * p + 1 = omega (arith, e) in (
        h r c (omega arith) (omega arith) (omega arith) (omega arith),
        (
          subst P right (h r (c + 1) (omega arith) (omega arith) (omega arith) (omega arith)),
          (
            subst P e (h (r + 1) c (omega arith) (omega arith) (omega arith) (omega arith)),
            (subst P below (h (r + 1) (c + 1) (omega arith) (omega arith) (omega arith) (omega arith)), tt),
          ),
        ),
      )

  pub all-within : (r c : ℕ) → ((y x : ℕ) → r ≤ y → y < r + 4 → c ≤ x → x < c + 4 → P (cell p y x)) → All P (square (4 * p) (cell p r c))
  all-within r c h =
      let e1 = next_row r c in
      let e2 = next_row (r + 1) c ∙ ap (λ (i : ℕ). i + 4 * p) e1 in
      let e3 = next_row (r + 1 + 1) c ∙ ap (λ (i : ℕ). i + 4 * p) e2 in
      all-square P (4 * p) (cell p r c) (all_across r c (λ x. h r x (omega arith) (omega arith)))
      (subst (λ (i : ℕ). All P (strip 1 i)) e1 (all_across (r + 1) c (λ x. h (r + 1) x (omega arith) (omega arith))))
      (subst (λ (i : ℕ). All P (strip 1 i)) e2 (all_across (r + 1 + 1) c (λ x. h (r + 1 + 1) x (omega arith) (omega arith))))
      (subst (λ (i : ℕ). All P (strip 1 i)) e3 (all_across (r + 1 + 1 + 1) c (λ x. h (r + 1 + 1 + 1) x (omega arith) (omega arith))))

-- ---- the four rows, or columns, at the edges

abbrev FourWays : ℕ → ℕ → Type 0
FourWays n y = (y ≡ 0) ⊎ ((y ≡ 1) ⊎ ((y ≡ 4 * n - 2) ⊎ (y ≡ 4 * n - 1)))

four_ways : (n y : ℕ) → y < 4 * n → Edge n y → FourWays n y
four_ways n zero h e = inl refl
four_ways n (suc zero) h e = inr (inl refl)
four_ways n (suc (suc y)) h (inl e) = absurd (omega (arith, e))
four_ways n (suc (suc y)) h (inr e) = by_cases (ℕ_discrete (suc (suc y)) (4 * n - 2)) (λ g. inr (inr (inl g))) (λ g. inr (inr (inr (omega (arith, e, g, h)))))

-- the two lines from the first on
pub first_edge : (n y z : ℕ) → First n y → y ≤ z → z < y + 2 → Edge n z
first_edge n y z (inl e) h l = inl (omega (arith, e))
first_edge n y z (inr e) h l = inr (omega (arith, e))

pub first_inside : (n y : ℕ) → 0 < n → First n y → y + 1 < 4 * n
first_inside n y h (inl e) = omega (arith, e)
first_inside n y h (inr e) = omega (arith, e)

-- ---- a rectangle of a grid of p by q squares, and uses outside it

pub in_rectangle : (p t b l r y x : ℕ) → x < 4 * p → t ≤ y → y < b → l ≤ x → x < r → Rectangle p t b l r (cell p y x)
in_rectangle p t b l r y x h e f g k =
    record { row_from = rw (digits_div y h) e; row_to = rw (digits_div y h) f; column_from = rw (digits_mod y h) g; column_to = rw (digits_mod y h) k }

-- row y and column x are not both in it
abbrev Out : ℕ → ℕ → ℕ → ℕ → ℕ → ℕ → Type 0
Out t b l r y x = t ≤ y → y < b → l ≤ x → x < r → ⊥

module _ (p q : ℕ) {t b l r : ℕ} where
  not_in : (y x : ℕ) → x < 4 * p → Out t b l r y x → ¬ Rectangle p t b l r (cell p y x)
  not_in y x h o c = o (rw (digits_div y h) at c.row_from) (rw (digits_div y h) at c.row_to) (rw (digits_mod y h) at c.column_from) (rw (digits_mod y h) at c.column_to)

  -- one use in other rows or columns
  square_out : (j i : ℕ) → i < p - 1 → ((y x : ℕ) → 4 * j + 2 ≤ y → y < 4 * j + 6 → 4 * i + 2 ≤ x → x < 4 * i + 6 → Out t b l r y x) → Does (Rectangle p t b l r) (square_filter_at (4 * p) (cell p (4 * j + 2) (4 * i + 2))) end
  unfolding square_filter_at
  square_out j i hi h =
      use_outside (Rectangle p t b l r) SquareFilter square_filter _ (all-within p (λ k. ¬ Rectangle p t b l r k) (4 * j + 2) (4 * i + 2) (λ y x e f g k. not_in y x (omega arith) (h y x e (omega arith) g (omega arith))))

  row_out : (y i : ℕ) → i < p - 1 → ((x : ℕ) → 4 * i + 2 ≤ x → x < 4 * i + 6 → Out t b l r y x) → Does (Rectangle p t b l r) (four_filter_at 1 (cell p y (4 * i + 2))) end
  unfolding four_filter_at
  row_out y i hi h = use_outside (Rectangle p t b l r) FourFilter four_filter _ (all_across p (λ k. ¬ Rectangle p t b l r k) y (4 * i + 2) (λ x e f. not_in y x (omega arith) (h x e (omega arith))))

  column_out : (x j : ℕ) → x < 4 * p → ((y : ℕ) → 4 * j + 2 ≤ y → y < 4 * j + 6 → Out t b l r y x) → Does (Rectangle p t b l r) (four_filter_at (4 * p) (cell p (4 * j + 2) x)) end
  unfolding four_filter_at
  column_out x j hx h = use_outside (Rectangle p t b l r) FourFilter four_filter _ (all_down p (λ k. ¬ Rectangle p t b l r k) (4 * j + 2) x (λ y e f. not_in y x hx (h y e (omega arith))))

  corner_out : (y x : ℕ) → x + 1 < 4 * p → ((y' x' : ℕ) → y ≤ y' → y' < y + 2 → x ≤ x' → x' < x + 2 → Out t b l r y' x') → Does (Rectangle p t b l r) (corner_filter_at (4 * p) (cell p y x)) end
  unfolding corner_filter_at
  corner_out y x hx h = use_outside (Rectangle p t b l r) FourFilter four_filter _ (all-corner p (λ k. ¬ Rectangle p t b l r k) y x (λ y' x' e f g k. not_in y' x' (omega arith) (h y' x' e f g k)))

  -- a stage in other rows or columns
  squares_out : ((j i y x : ℕ) → j < q - 1 → i < p - 1 → 4 * j + 2 ≤ y → y < 4 * j + 6 → 4 * i + 2 ≤ x → x < 4 * i + 6 → Out t b l r y x) → Does (Rectangle p t b l r) (square_filters p q) end
  unfolding square_filters
  squares_out h = none_left (Agree (Rectangle p t b l r)) (q - 1) _ (λ j hj. none_left (Agree (Rectangle p t b l r)) (p - 1) _ (λ i hi. square_out j i hi (λ y x. h j i y x hj hi)))

  rows_out : (y : ℕ) → ((i x : ℕ) → i < p - 1 → 4 * i + 2 ≤ x → x < 4 * i + 6 → Out t b l r y x) → Does (Rectangle p t b l r) (row_filters p y) end
  unfolding row_filters
  rows_out y h = none_left (Agree (Rectangle p t b l r)) (p - 1) _ (λ i hi. row_out y i hi (λ x. h i x hi))

  columns_out : (x : ℕ) → x < 4 * p → ((j y : ℕ) → j < q - 1 → 4 * j + 2 ≤ y → y < 4 * j + 6 → Out t b l r y x) → Does (Rectangle p t b l r) (column_filters p q x) end
  unfolding column_filters
  columns_out x hx h = none_left (Agree (Rectangle p t b l r)) (q - 1) _ (λ j hj. column_out x j hx (λ y. h j y hj))

-- ---- a set of places in which one use acts, or none

module _ {C : ℕ → Type 0} where
  none : {a d : Program} → Does C a end → Does C d end → Does C (a then d) end
  none {a} {d} f g = then_nothing C a d end f g

  later : {a d e : Program} → Does C a end → Does C d e → Does C (a then d) e
  later {a} {d} {e} f g = nothing_then C a d e f g

  now : {a d e : Program} → Does C a e → Does C d end → Does C (a then d) e
  now {a} {d} {e} f g = then_nothing C a d e f g

  -- the uses along the four edges of one direction: none of them, or those of one edge alone
  none_of_four : (n : ℕ) (f : ℕ → Program) → 0 < n → ((y : ℕ) → y < 4 * n → Edge n y → Does C (f y) end) → Does C (along_edges n f) end
  none_of_four n f h g =
      none (g 0 (omega arith) (inl (omega arith))) (none (g 1 (omega arith) (inl (omega arith))) (none (g (4 * n - 2) (omega arith) (inr (omega arith))) (g (4 * n - 1) (omega arith) (inr (omega arith)))))

  one-of-four : {e : Program} (n : ℕ) (f : ℕ → Program) (y : ℕ) → y < 4 * n → Edge n y → Does C (f y) e
      → ((z : ℕ) → z < 4 * n → Edge n z → (z ≡ y → ⊥) → Does C (f z) end) → Does C (along_edges n f) e
  one-of-four {e} n f y hy edge d g = which (four_ways n y hy edge)
    where
      mine : (z : ℕ) → y ≡ z → Does C (f z) e
      mine z h = subst (λ (i : ℕ). Does C (f i) e) h d

      first : (y ≡ 0 → ⊥) → Does C (f 0) end
      first h = g 0 (omega arith) (inl (omega arith)) (λ k. h (sym k))

      second : (y ≡ 1 → ⊥) → Does C (f 1) end
      second h = g 1 (omega arith) (inl (omega arith)) (λ k. h (sym k))

      third : (y ≡ 4 * n - 2 → ⊥) → Does C (f (4 * n - 2)) end
      third h = g (4 * n - 2) (omega arith) (inr (omega arith)) (λ k. h (sym k))

      fourth : (y ≡ 4 * n - 1 → ⊥) → Does C (f (4 * n - 1)) end
      fourth h = g (4 * n - 1) (omega arith) (inr (omega arith)) (λ k. h (sym k))

      which : FourWays n y → Does C (along_edges n f) e
      which (inl h) = now (mine 0 h) (none (second (λ k. omega (arith, h, k))) (none (third (λ k. omega (arith, h, k))) (fourth (λ k. omega (arith, h, k)))))
      which (inr (inl h)) = later (first (λ k. omega (arith, h, k))) (now (mine 1 h) (none (third (λ k. omega (arith, h, k))) (fourth (λ k. omega (arith, h, k)))))
      which (inr (inr (inl h))) =
          later (first (λ k. omega (arith, h, k))) (later (second (λ k. omega (arith, h, k))) (now (mine (4 * n - 2) h) (fourth (λ k. omega (arith, h, k)))))
      which (inr (inr (inr h))) =
          later (first (λ k. omega (arith, h, k))) (later (second (λ k. omega (arith, h, k))) (later (third (λ k. omega (arith, h, k))) (mine (4 * n - 1) h)))

  none-of-corners : (p q : ℕ) → ((y x : ℕ) → First q y → First p x → Does C (corner_filter_at (4 * p) (cell p y x)) end) → Does C (corner_filters p q) end
  unfolding corner_filters
  none-of-corners p q h = none (h _ _ (inl refl) (inl refl)) (none (h _ _ (inl refl) (inr refl)) (none (h _ _ (inr refl) (inl refl)) (h _ _ (inr refl) (inr refl))))

-- ---- the places of a use lie in its rectangle

module _ (p r c : ℕ) where
  pub square-within : c + 4 ≤ 4 * p → All (Rectangle p r (r + 4) c (c + 4)) (square (4 * p) (cell p r c))
  square-within h = all-within p (Rectangle p r (r + 4) c (c + 4)) r c (λ y x e f g k. in_rectangle p r (r + 4) c (c + 4) y x (omega arith) e f g k)

  pub row_within : c + 4 ≤ 4 * p → All (Rectangle p r (r + 1) c (c + 4)) (strip 1 (cell p r c))
  row_within h = all_across p (Rectangle p r (r + 1) c (c + 4)) r c (λ x g k. in_rectangle p r (r + 1) c (c + 4) r x (omega arith) (omega arith) (omega arith) g k)

  pub column-within : c < 4 * p → All (Rectangle p r (r + 4) c (c + 1)) (strip (4 * p) (cell p r c))
  column-within h = all_down p (Rectangle p r (r + 4) c (c + 1)) r c (λ y g k. in_rectangle p r (r + 4) c (c + 1) y c h g k (omega arith) (omega arith))

  pub corner-within : c + 2 ≤ 4 * p → All (Rectangle p r (r + 2) c (c + 2)) (corner (4 * p) (cell p r c))
  corner-within h = all-corner p (Rectangle p r (r + 2) c (c + 2)) r c (λ y x e f g k. in_rectangle p r (r + 2) c (c + 2) y x (omega arith) e f g k)

-- ---- each use alone in its rectangle

-- an edge row is no row of a square, nor of a column's four
edge_off : (n j y : ℕ) → j < n - 1 → Edge n y → 4 * j + 2 ≤ y → y < 4 * j + 6 → ⊥
edge_off n j y h (inl e) f g = omega (arith, e, f)
edge_off n j y h (inr e) f g = omega (arith, e, g, h)

abbrev SquareOf : ℕ → ℕ → ℕ → ℕ → Type 0
SquareOf p j i = Rectangle p (4 * j + 2) (4 * j + 2 + 4) (4 * i + 2) (4 * i + 2 + 4)

abbrev RowOf : ℕ → ℕ → ℕ → ℕ → Type 0
RowOf p y i = Rectangle p y (y + 1) (4 * i + 2) (4 * i + 2 + 4)

abbrev ColumnOf : ℕ → ℕ → ℕ → ℕ → Type 0
ColumnOf p x j = Rectangle p (4 * j + 2) (4 * j + 2 + 4) x (x + 1)

abbrev CornerOf : ℕ → ℕ → ℕ → ℕ → Type 0
CornerOf p y x = Rectangle p y (y + 2) x (x + 2)

-- the corners lie where a row at an edge meets a column at an edge
corners_out : (p q : ℕ) {t b l r : ℕ} → 0 < p → ((y x : ℕ) → Edge q y → Edge p x → Out t b l r y x) → Does (Rectangle p t b l r) (corner_filters p q) end
corners_out p q wide h =
    none-of-corners p q (λ y x fy fx. corner_out p q y x (first_inside p x wide fx) (λ y' x' e f g k. h y' x' (first_edge q y y' fy e f) (first_edge p x x' fx g k)))

abbrev square_use : ℕ → ℕ → ℕ → Program
square_use p j i = apply SquareFilter square_filter (square (4 * p) (cell p (4 * j + 2) (4 * i + 2))) end

abbrev row_use : ℕ → ℕ → ℕ → Program
row_use p y i = apply FourFilter four_filter (strip 1 (cell p y (4 * i + 2))) end

abbrev column_use : ℕ → ℕ → ℕ → Program
column_use p x j = apply FourFilter four_filter (strip (4 * p) (cell p (4 * j + 2) x)) end

pub square_alone : (p q j i : ℕ) → j < q - 1 → i < p - 1
    → Does (Rectangle p (4 * j + 2) (4 * j + 2 + 4) (4 * i + 2) (4 * i + 2 + 4)) (filters p q) (square_filter_at (4 * p) (cell p (4 * j + 2) (4 * i + 2)))
unfolding square_filter_at square_filters filters
square_alone p q j i hj hi = now own (none rows (none columns corners))
  where
    mine : Does (SquareOf p j i) (square_use p j i) (square_use p j i)
    mine = use_inside (SquareOf p j i) SquareFilter square_filter _ (square-within p (4 * j + 2) (4 * i + 2) (omega arith))

    own : Does (SquareOf p j i) (square_filters p q) (square_use p j i)
    own =
        one_of (SquareOf p j i) (q - 1) j _ (square_use p j i) hj
        (one_of (SquareOf p j i) (p - 1) i _ (square_use p j i) hi mine (λ k h n. square_out p q j k h (λ y x e f g m e' f' g' m'. n (omega arith))))
        (λ k h n. none_left (Agree (SquareOf p j i)) (p - 1) _ (λ m o. square_out p q k m o (λ y x e f g u e' f' g' u'. n (omega arith))))

    rows : Does (SquareOf p j i) (along_edges q (row_filters p)) end
    rows = none_of_four q (row_filters p) (omega arith) (λ y h e. rows_out p q y (λ k x g m u e' f' g' u'. edge_off q j y hj e e' (omega arith)))

    columns : Does (SquareOf p j i) (along_edges p (column_filters p q)) end
    columns = none_of_four p (column_filters p q) (omega arith) (λ x h e. columns_out p q x h (λ k y g m u e' f' g' u'. edge_off p i x hi e g' (omega arith)))

    corners : Does (SquareOf p j i) (corner_filters p q) end
    corners = corners_out p q (omega arith) (λ y x ey ex e f g k. edge_off q j y hj ey e (omega arith))

pub row_alone : (p q y i : ℕ) → y < 4 * q → Edge q y → i < p - 1
    → Does (Rectangle p y (y + 1) (4 * i + 2) (4 * i + 2 + 4)) (filters p q) (four_filter_at 1 (cell p y (4 * i + 2)))
unfolding four_filter_at row_filters filters
row_alone p q y i hy edge hi = later squares (now rows (none columns corners))
  where
    mine : Does (RowOf p y i) (row_use p y i) (row_use p y i)
    mine = use_inside (RowOf p y i) FourFilter four_filter _ (row_within p y (4 * i + 2) (omega arith))

    squares : Does (RowOf p y i) (square_filters p q) end
    squares = squares_out p q (λ j k z x hj hk e f g m e' f' g' m'. edge_off q j y hj edge (omega arith) (omega arith))

    own : Does (RowOf p y i) (row_filters p y) (row_use p y i)
    own = one_of (RowOf p y i) (p - 1) i _ (row_use p y i) hi mine (λ k h n. row_out p q y k h (λ x g m e' f' g' m'. n (omega arith)))

    rows : Does (RowOf p y i) (along_edges q (row_filters p)) (row_use p y i)
    rows = one-of-four q (row_filters p) y hy edge own (λ z h e n. rows_out p q z (λ k x g m u e' f' g' u'. n (omega arith)))

    columns : Does (RowOf p y i) (along_edges p (column_filters p q)) end
    columns = none_of_four p (column_filters p q) (omega arith) (λ x h e. columns_out p q x h (λ j z hj m u e' f' g' u'. edge_off q j y hj edge (omega arith) (omega arith)))

    corners : Does (RowOf p y i) (corner_filters p q) end
    corners = corners_out p q (omega arith) (λ z x ez ex e f g k. edge_off p i x hi ex g (omega arith))

pub column_alone : (p q x j : ℕ) → x < 4 * p → Edge p x → j < q - 1
    → Does (Rectangle p (4 * j + 2) (4 * j + 2 + 4) x (x + 1)) (filters p q) (four_filter_at (4 * p) (cell p (4 * j + 2) x))
unfolding four_filter_at column_filters filters
column_alone p q x j hx edge hj = later squares (later rows (now columns corners))
  where
    mine : Does (ColumnOf p x j) (column_use p x j) (column_use p x j)
    mine = use_inside (ColumnOf p x j) FourFilter four_filter _ (column-within p (4 * j + 2) x hx)

    squares : Does (ColumnOf p x j) (square_filters p q) end
    squares = squares_out p q (λ k i y z hk hi e f g m e' f' g' m'. edge_off p i x hi edge (omega arith) (omega arith))

    rows : Does (ColumnOf p x j) (along_edges q (row_filters p)) end
    rows = none_of_four q (row_filters p) (omega arith) (λ y h e. rows_out p q y (λ i z hi m u e' f' g' u'. edge_off p i x hi edge (omega arith) (omega arith)))

    own : Does (ColumnOf p x j) (column_filters p q x) (column_use p x j)
    own = one_of (ColumnOf p x j) (q - 1) j _ (column_use p x j) hj mine (λ k h n. column_out p q x k hx (λ y g m e' f' g' m'. n (omega arith)))

    columns : Does (ColumnOf p x j) (along_edges p (column_filters p q)) (column_use p x j)
    columns = one-of-four p (column_filters p q) x hx edge own (λ z h e n. columns_out p q z h (λ k y g m u e' f' g' u'. n (omega arith)))

    corners : Does (ColumnOf p x j) (corner_filters p q) end
    corners = corners_out p q (omega arith) (λ y z ey ez e f g k. edge_off q j y hj ey e (omega arith))

-- two edge rows by two edge columns
pub corner_alone : (p q y x : ℕ) → 0 < p → 0 < q → First q y → First p x → Does (Rectangle p y (y + 2) x (x + 2)) (filters p q) (corner_filter_at (4 * p) (cell p y x))
unfolding corner_filter_at corner_filters filters
corner_alone p q y x wide tall fy fx = later squares (later rows (later columns (corners fy fx)))
  where
    squares : Does (CornerOf p y x) (square_filters p q) end
    squares = squares_out p q (λ j i z w hj hi e f g m e' f' g' m'. edge_off q j z hj (first_edge q y z fy e' f') e f)

    rows : Does (CornerOf p y x) (along_edges q (row_filters p)) end
    rows = none_of_four q (row_filters p) tall (λ z h e. rows_out p q z (λ i w hi m u e' f' g' u'. edge_off p i w hi (first_edge p x w fx g' u') m u))

    columns : Does (CornerOf p y x) (along_edges p (column_filters p q)) end
    columns = none_of_four p (column_filters p q) wide (λ w h e. columns_out p q w h (λ j z hj m u e' f' g' u'. edge_off q j z hj (first_edge q y z fy e' f') m u))

    -- at the place in question, and elsewhere
    here : (z w : ℕ) → y ≡ z → x ≡ w → Does (CornerOf p y x) (corner_filter_at (4 * p) (cell p z w)) (corner_filter_at (4 * p) (cell p y x))
    here z w e f = rw (← e, ← f) (use_inside (CornerOf p y x) FourFilter four_filter _ (corner-within p y x (omega (arith, first_inside p x wide fx))))

    off : (z w : ℕ) → First p w → ((z' w' : ℕ) → z ≤ z' → z' < z + 2 → w ≤ w' → w' < w + 2 → Out y (y + 2) x (x + 2) z' w') → Does (CornerOf p y x) (corner_filter_at (4 * p) (cell p z w)) end
    off z w fw h = corner_out p q z w (first_inside p w wide fw) h

    corners : First q y → First p x → Does (CornerOf p y x) (corner_filters p q) (corner_filter_at (4 * p) (cell p y x))
    corners (inl e) (inl f) =
        now (here 0 0 e f) (none (off 0 (4 * p - 2) (inr refl) (λ a b c d g h i j k l. omega (arith, f)))
        (none (off (4 * q - 2) 0 (inl refl) (λ a b c d g h i j k l. omega (arith, e))) (off (4 * q - 2) (4 * p - 2) (inr refl) (λ a b c d g h i j k l. omega (arith, e)))))
    corners (inl e) (inr f) =
        later (off 0 0 (inl refl) (λ a b c d g h i j k l. omega (arith, f))) (now (here 0 (4 * p - 2) e f)
        (none (off (4 * q - 2) 0 (inl refl) (λ a b c d g h i j k l. omega (arith, e))) (off (4 * q - 2) (4 * p - 2) (inr refl) (λ a b c d g h i j k l. omega (arith, e)))))
    corners (inr e) (inl f) =
        later (off 0 0 (inl refl) (λ a b c d g h i j k l. omega (arith, e))) (later (off 0 (4 * p - 2) (inr refl) (λ a b c d g h i j k l. omega (arith, e)))
        (now (here (4 * q - 2) 0 e f) (off (4 * q - 2) (4 * p - 2) (inr refl) (λ a b c d g h i j k l. omega (arith, f)))))
    corners (inr e) (inr f) =
        later (off 0 0 (inl refl) (λ a b c d g h i j k l. omega (arith, e))) (later (off 0 (4 * p - 2) (inr refl) (λ a b c d g h i j k l. omega (arith, e)))
        (later (off (4 * q - 2) 0 (inl refl) (λ a b c d g h i j k l. omega (arith, f))) (here (4 * q - 2) (4 * p - 2) e f)))
