-- A grid put together of planes gives the planes back, and the planes of a grid give the grid back: the coefficient k of the square s stands at one place,
-- where no other does. One argument serves both levels, over the order in which the squares' coefficients 1 to 15 follow each other in their plane.
use Prim.Native.Nat.{ℕ, zero, suc, ◌+◌, ◌-◌, ◌*◌, ◌/◌, ◌%◌, ◌<◌}
use mathlib.Core.Path.{◌≡◌, refl, ◌∙◌, ap, ap₂}
use mathlib.Core.List.{List}
use native.Mathlib.Omega.{arith}
use native.Mathlib.Numerals.{add-one}
use lib.ListN.{length}
use lib.IntN.{ℤ}
use mir.Val.{SFits}
use mir.Syntax.{w32}
use Rattle.lifting.specs.Program.{at}
use Rattle.lifting.specs.Row.{Row}
use Rattle.picture.specs.Table.{table}
use Rattle.transform.specs.Grids.{square_of, coefficient_of, place, grid, coefficients, block_order, block_at, first_grid, second_grid, dc_of, low_of, view_of, high_of}
use Rattle.picture.proofs.Table.{length-table, at_table, table_is, row-table}
use Rattle.transform.proofs.Geometry.{square-of-place, coefficient_of_place, place-of-square, place-low, square-low, coefficient_low, order_of_block, block_of_order, block-low, order_low}

-- ---- a grid of p by q squares

module _ {p : ℕ} (wide : 0 < p) (q : ℕ) where
  pub at-grid : (f : ℕ → ℕ → ℤ) (s k : ℕ) → s < p * q → k < 16 → at (grid p q f) (place p s k) ≡ f s k
  unfolding grid
  at-grid f s k h l =
      at_table (16 * (p * q)) _ (place p s k) (place-low wide q s k h l) ∙ ap₂ f (square-of-place wide s k l) (coefficient_of_place wide s k l)

  -- a grid that has f's numbers at their places is f's grid
  pub grid-is : (f : ℕ → ℕ → ℤ) (g : List ℤ) → length g ≡ 16 * (p * q) → ((s k : ℕ) → s < p * q → k < 16 → f s k ≡ at g (place p s k)) → grid p q f ≡ g
  unfolding grid
  grid-is f g h e =
      table_is (16 * (p * q)) _ g h
      (λ i l. e (square_of p i) (coefficient_of p i) (square-low wide q i l) (coefficient_low p i) ∙ ap (at g) (place-of-square wide i))

pub length-grid : (p q : ℕ) (f : ℕ → ℕ → ℤ) → length (grid p q f) ≡ 16 * (p * q)
unfolding grid
length-grid p q f = length-table (16 * (p * q)) _

pub row-grid : (p q : ℕ) (f : ℕ → ℕ → ℤ) → ((s k : ℕ) → SFits w32 (f s k)) → Row (16 * (p * q)) (grid p q f)
unfolding grid
row-grid p q f h = row-table (16 * (p * q)) _ (λ i l. h (square_of p i) (coefficient_of p i))

-- ---- coefficient 0, or one of the others

pub first_coefficient : (x : ℤ) (f : ℕ → ℤ) (k : ℕ) → k ≡ 0 → x ≡ coefficients x f k
first_coefficient x f zero e = refl
first_coefficient x f (suc k) e = absurd (omega arith)

pub later_coefficient : (x : ℤ) (f : ℕ → ℤ) (k : ℕ) → (k ≡ 0 → ⊥) → f (k - 1) ≡ coefficients x f k
later_coefficient x f zero h = absurd (h refl)
later_coefficient x f (suc k) h = let e : suc k - 1 ≡ k = omega arith in ap f e

-- ---- coefficients 0 in one list, and in another the coefficients 1 to 15 of square after square: those of the square s are the `order s`th fifteen

abbrev Keeps : ℕ → (ℕ → ℕ) → Type 0
Keeps n f = (i : ℕ) → i < n → f i < n

abbrev joined : ℕ → ℕ → (ℕ → ℕ) → List ℤ → List ℤ → List ℤ
joined p q order xs ys = grid p q (λ s. coefficients (at xs s) (λ k. at ys (15 * order s + k)))

abbrev firsts : ℕ → ℕ → List ℤ → List ℤ
firsts p n g = table n (λ s. at g (place p s 0))

abbrev rests : ℕ → ℕ → (ℕ → ℕ) → List ℤ → List ℤ
rests p m back g = table m (λ i. at g (place p (back (i / 15)) (i % 15 + 1)))

row-joined : (p q : ℕ) (order : ℕ → ℕ) {a b : ℕ} {xs ys : List ℤ} → Row a xs → Row b ys → Row (16 * (p * q)) (joined p q order xs ys)
row-joined p q order {xs} {ys} r t = row-grid p q _ fits
  where
    fits : (s k : ℕ) → SFits w32 (coefficients (at xs s) (λ j. at ys (15 * order s + j)) k)
    fits s zero = r.fit s
    fits s (suc k) = t.fit (15 * order s + k)

module _ {p : ℕ} (wide : 0 < p) (q n : ℕ) (all : n ≡ p * q) where
  firsts_joined : (order : ℕ → ℕ) (xs ys : List ℤ) → length xs ≡ n → firsts p n (joined p q order xs ys) ≡ xs
  firsts_joined order xs ys h = table_is n _ xs h (λ s l. at-grid wide q _ s 0 (omega arith) (omega arith))

  module _ (m : ℕ) (fifteen : m ≡ 15 * (p * q)) (order back : ℕ → ℕ) where
    rests-joined : ((t : ℕ) → order (back t) ≡ t) → Keeps (p * q) back → (xs ys : List ℤ) → length ys ≡ m → rests p m back (joined p q order xs ys) ≡ ys
    rests-joined order-back back-keeps xs ys h = table_is m _ ys h entry
      where
        entry : (i : ℕ) → i < m → at (joined p q order xs ys) (place p (back (i / 15)) (i % 15 + 1)) ≡ at ys i
        entry i l =
            at-grid wide q _ (back (i / 15)) (i % 15 + 1) (back-keeps (i / 15) (omega arith)) (omega arith)
            ∙ rw (add-one (i % 15), order-back (i / 15)) (ap (at ys) (omega arith))

    joined-parts : ((s : ℕ) → back (order s) ≡ s) → Keeps (p * q) order → (g : List ℤ) → length g ≡ 16 * (p * q) → joined p q order (firsts p n g) (rests p m back g) ≡ g
    joined-parts back-order order-keeps g h = grid-is wide q _ g h entry
      where
        entry : (s k : ℕ) → s < p * q → k < 16 → coefficients (at (firsts p n g) s) (λ j. at (rests p m back g) (15 * order s + j)) k ≡ at g (place p s k)
        entry s zero l h = at_table n _ s (omega arith)
        entry s (suc k) l h = at_table m _ (15 * order s + k) (omega (arith, order-keeps s l)) ∙ rw (a, b, back-order s)
          where
            a : (15 * order s + k) / 15 ≡ order s
            a = omega arith

            b : (15 * order s + k) % 15 + 1 ≡ suc k
            b = omega arith

-- ---- level one

module _ {W : ℕ} (wide : 0 < W) (H : ℕ) where
  pub dc-of-first : (dc low : List ℤ) → length dc ≡ W * H → dc_of W H (first_grid W H dc low) ≡ dc
  unfolding first_grid dc_of
  dc-of-first dc low h = firsts_joined wide H (W * H) refl (λ m. m) dc low h

  pub low-of-first : (dc low : List ℤ) → length low ≡ 15 * (W * H) → low_of W H (first_grid W H dc low) ≡ low
  unfolding first_grid low_of
  low-of-first dc low h = rests-joined wide H (W * H) refl (15 * (W * H)) refl (λ m. m) (λ m. m) (λ m. refl) (λ m l. l) dc low h

  pub first_of_parts : (g : List ℤ) → length g ≡ 16 * (W * H) → first_grid W H (dc_of W H g) (low_of W H g) ≡ g
  unfolding first_grid dc_of low_of
  first_of_parts g h = joined-parts wide H (W * H) refl (15 * (W * H)) refl (λ m. m) (λ m. m) (λ m. refl) (λ m l. l) g h

  pub at_first : (dc low : List ℤ) (m k : ℕ) → m < W * H → k < 16 → at (first_grid W H dc low) (place W m k) ≡ coefficients (at dc m) (λ j. at low (15 * m + j)) k
  unfolding first_grid
  at_first dc low m k h l = at-grid wide H _ m k h l

-- ---- level two

module _ {W : ℕ} (wide : 0 < W) (H : ℕ) where
  wider : 0 < 4 * W
  wider = omega arith

  all : 16 * (W * H) ≡ 4 * W * (4 * H)
  all = omega arith

  fifteen : 240 * (W * H) ≡ 15 * (4 * W * (4 * H))
  fifteen = omega arith

  pub view_of_second : (view high : List ℤ) → length view ≡ 16 * (W * H) → view_of W H (second_grid W H view high) ≡ view
  unfolding second_grid view_of
  view_of_second view high h = firsts_joined wider (4 * H) (16 * (W * H)) all (block_order W) view high h

  pub high-of-second : (view high : List ℤ) → length high ≡ 240 * (W * H) → high_of W H (second_grid W H view high) ≡ high
  unfolding second_grid high_of
  high-of-second view high h =
      rests-joined wider (4 * H) (16 * (W * H)) all (240 * (W * H)) fifteen (block_order W) (block_at W) (order_of_block wide)
      (λ t l. rw (← all) (block-low wide H t (omega arith))) view high h

  pub second_of_parts : (g : List ℤ) → length g ≡ 256 * (W * H) → second_grid W H (view_of W H g) (high_of W H g) ≡ g
  unfolding second_grid view_of high_of
  second_of_parts g h =
      joined-parts wider (4 * H) (16 * (W * H)) all (240 * (W * H)) fifteen (block_order W) (block_at W) (block_of_order wide)
      (λ b l. rw (← all) (order_low wide H b (omega arith))) g (omega (arith, h))

  pub at_second : (view high : List ℤ) (b k : ℕ) → b < 16 * (W * H) → k < 16
      → at (second_grid W H view high) (place (4 * W) b k) ≡ coefficients (at view b) (λ j. at high (15 * block_order W b + j)) k
  unfolding second_grid
  at_second view high b k h l = at-grid wider (4 * H) _ b k (omega arith) l

-- ---- grids and parts of 32-bit numbers

module _ (W H : ℕ) where
  pub row_first : {dc low : List ℤ} → Row (W * H) dc → Row (15 * (W * H)) low → Row (16 * (W * H)) (first_grid W H dc low)
  unfolding first_grid
  row_first r t = row-joined W H (λ m. m) r t

  pub row-second : {view high : List ℤ} → Row (16 * (W * H)) view → Row (240 * (W * H)) high → Row (256 * (W * H)) (second_grid W H view high)
  unfolding second_grid
  row-second r t = let s = row-joined (4 * W) (4 * H) (block_order W) r t in record { len = omega (arith, s.len); fit = s.fit }

module _ (W H : ℕ) {n : ℕ} {g : List ℤ} (r : Row n g) where
  pub row-dc : Row (W * H) (dc_of W H g)
  unfolding dc_of
  row-dc = row-table (W * H) _ (λ m l. r.fit (place W m 0))

  pub row_low : Row (15 * (W * H)) (low_of W H g)
  unfolding low_of
  row_low = row-table (15 * (W * H)) _ (λ i l. r.fit (place W (i / 15) (i % 15 + 1)))

  pub row_view : Row (16 * (W * H)) (view_of W H g)
  unfolding view_of
  row_view = row-table (16 * (W * H)) _ (λ b l. r.fit (place (4 * W) b 0))

  pub row-high : Row (240 * (W * H)) (high_of W H g)
  unfolding high_of
  row-high = row-table (240 * (W * H)) _ (λ i l. r.fit (place (4 * W) (block_at W (i / 15)) (i % 15 + 1)))
