-- Where rows and lines of squares lie. A line of uses along a row, or down a column, is the level's filters of that row or column, and the
-- corners of four squares are the level's; and the filters one stage after another.
use Prim.Native.Nat.{ℕ, zero, suc, ◌+◌, ◌-◌, ◌*◌, ◌≤◌, ◌<◌}
use mathlib.Core.Path.{◌≡◌, refl, ap}
use mathlib.Core.List.{List}
use native.Mathlib.Omega.{arith}
use lib.Arith.{digits_lt}
use lib.ListN.{length}
use lib.IntN.{ℤ}
use Rattle.lifting.specs.Program.{Program, end, apply, FourFilter, undo, each, ◌then◌}
use Rattle.lifting.proofs.Compose.{undo_then}
use Rattle.figures.specs.Figures.{four_filter}
use Rattle.picture.specs.declared.size.Size.{Size}
use Rattle.transform.specs.Level.{cell, four_filter_at, corner_filter_at, square_filters, row_filters, column_filters, along_edges, corner_filters, filters}
use Rattle.picture.specs.Sizes.{Sized}
use Rattle.picture.proofs.CheckLaws.{few_macroblocks}
use Rattle.grid.proofs.Rows.{row_inside, row-above}
use Rattle.forward_one_grid.specs.Held.{Held}
use Rattle.forward_one_grid.proofs.Lines.{row_line, column-line, corner-is}
use Rattle.forward_one_grid.specs.Places.{from_to}
use Rattle.forward_one_filters.specs.declared.lines.Line.{Line}
use Rattle.forward_one_filters.specs.Edges.{filter_of, line, edges, edges_of, corners}

-- ---- squares

-- square t, in row j and column i, and the n squares beside it lie in the picture, which is small
pub beside_few : {size : Size} (j i n : ℕ) {t : ℕ} → Sized size → j + 1 < size.height.0 → i + n < size.width.0 → t ≡ j * size.width.0 + i → t + n < 216825
beside_few j i n s k l e = omega (arith, digits_lt k l, few_macroblocks s)

-- one use back on a line
pub step_back : (from pace i : ℕ) {t : ℕ} → 0 < i → t ≡ from + pace * i → (pace ≤ t) × (t - pace ≡ from + pace * (i - 1))
step_back from pace i h e = let up = row-above i pace h in (omega arith, omega arith)

-- one use on, of n
pub step_on : (from pace i n : ℕ) → i < n → from + pace * i + pace ≤ from + pace * n
step_on from pace i n h = omega (arith, row_inside i n pace h)

-- the last square
pub last_square : {size : Size} {dc low : List ℤ} → Sized size → Held size dc low → (0 < length dc) × (length dc - 1 ≡ (size.height.0 - 1) * size.width.0 + (size.width.0 - 1))
last_square {size} s h =
    let up = row-above size.height.0 size.width.0 s.tall in
    let wide = s.wide in
    (omega (arith, h.of-dc), omega (arith, h.of-dc))

-- the bottom row of squares
pub bottom-row : {size : Size} {dc low : List ℤ} → Sized size → Held size dc low → (size.width.0 ≤ length dc) × (length dc - size.width.0 ≡ (size.height.0 - 1) * size.width.0)
bottom-row {size} s h = let up = row-above size.height.0 size.width.0 s.tall in (omega (arith, h.of-dc), omega (arith, h.of-dc))

-- ---- lines and stages

pub each_same : (n : ℕ) (f g : ℕ → Program) → ((i : ℕ) → i < n → f i ≡ g i) → each n f ≡ each n g
unfolding each
each_same zero f g h = refl
each_same (suc n) f g h = rw (each_same n f g (λ i l. h i (omega arith)), h n (omega arith))

four_same : {a b c d a' b' c' d' : Program} → a ≡ a' → b ≡ b' → c ≡ c' → d ≡ d' → (a then b then c then d) ≡ (a' then b' then c' then d')
four_same e f g h = rw (e, f, g, h)

-- four programs undone, the last of them first
pub four_undone : (a b c d : Program) (v : List ℤ) {v1 v2 v3 v4 : List ℤ} → v1 ≡ undo d v → v2 ≡ undo c v1 → v3 ≡ undo b v2 → v4 ≡ undo a v3 → v4 ≡ undo (a then b then c then d) v
four_undone a b c d v e f g h = rw (h, g, f, e) (simp undo_then)

abbrev uses_of : ℕ → ℕ → ℕ → ℕ → ℕ → Line
uses_of from pace l step n = record { from = from; pace = pace; l = l; step = step; n = n }

module _ (size : Size) (sized : Sized size) where
  abbrev W : ℕ
  W = size.width.0

  abbrev H : ℕ
  H = size.height.0

  row_is : (from l j r row : ℕ) → from ≡ j * W → l ≡ 4 * r → row ≡ 4 * j + r → line size (uses_of from 1 l 1 (W - 1)) ≡ row_filters W row
  unfolding line filter_of row_filters four_filter_at
  row_is from l j r row e f g =
      rw (f, g) (each_same (W - 1) _ _ (λ i h. ap (λ ps. apply FourFilter four_filter ps end) (row_line size (from + 1 * i) (from + 1 * i + 1) j i r (omega arith) refl (omega arith))))

  column-is : (from l i c column : ℕ) → from ≡ i → i < W → l ≡ c → c < 4 → column ≡ 4 * i + c → line size (uses_of from W l 4 (H - 1)) ≡ column_filters W H column
  unfolding line filter_of column_filters four_filter_at
  column-is from l i c column e k f m g =
      rw (f, g) (each_same (H - 1) _ _ (λ j h. ap (λ ps. apply FourFilter four_filter ps end) (column-line size (from + W * j) (from + W * j + W) j i c m (omega arith) refl k)))

  pub rows_are : (bottom : ℕ) → bottom ≡ (H - 1) * W → edges size (edges_of bottom 1 4 1 (W - 1)) ≡ along_edges H (row_filters W)
  unfolding edges
  rows_are bottom e =
      let h = sized.tall in
      four_same (row_is 0 0 0 0 0 (omega arith) refl refl) (row_is 0 4 0 1 1 (omega arith) refl refl)
      (row_is bottom (2 * 4) (H - 1) 2 (4 * H - 2) e refl (omega arith)) (row_is bottom (3 * 4) (H - 1) 3 (4 * H - 1) e refl (omega arith))

  pub columns_are : edges size (edges_of (W - 1) W 1 4 (H - 1)) ≡ along_edges W (column_filters W H)
  unfolding edges
  columns_are =
      let h = sized.wide in
      four_same (column-is 0 0 0 0 0 refl h refl (omega arith) refl) (column-is 0 1 0 1 1 refl h refl (omega arith) refl)
      (column-is (W - 1) (2 * 1) (W - 1) 2 (4 * W - 2) refl (omega arith) refl (omega arith) (omega arith))
      (column-is (W - 1) (3 * 1) (W - 1) 3 (4 * W - 1) refl (omega arith) refl (omega arith) (omega arith))

  -- the corner of square (j, i) from its row y and column x on
  one-corner : (t k l j i y x row column : ℕ) → t ≡ j * W + i → i < W → x < 3 → k ≡ 4 * y + x → l ≡ 4 * y + x + 4 → row ≡ 4 * j + y → column ≡ 4 * i + x → filter_of size (from_to t k t l 1) ≡ corner_filter_at (4 * W) (cell W row column)
  unfolding filter_of corner_filter_at
  one-corner t k l j i y x row column e h m f g u v = rw (f, g, u, v) (ap (λ ps. apply FourFilter four_filter ps end) (corner-is size t j i y x e h m))

  pub corners_are : (bottom last : ℕ) → bottom ≡ (H - 1) * W → last ≡ (H - 1) * W + (W - 1) → corners size (W - 1) bottom last ≡ corner_filters W H
  unfolding corners corner_filters
  corners_are bottom last e f =
      let wide = sized.wide in
      let tall = sized.tall in
      four_same (one-corner 0 0 4 0 0 0 0 0 0 (omega arith) wide (omega arith) refl refl refl refl) (one-corner (W - 1) 2 6 0 (W - 1) 0 2 0 (4 * W - 2) (omega arith) (omega arith) (omega arith) refl refl refl (omega arith))
      (one-corner bottom 8 12 (H - 1) 0 2 0 (4 * H - 2) 0 (omega arith) wide (omega arith) refl refl (omega arith) refl)
      (one-corner last 10 14 (H - 1) (W - 1) 2 2 (4 * H - 2) (4 * W - 2) f (omega arith) (omega arith) refl refl (omega arith) (omega arith))

  -- the filters, one stage after another; the bottom row of squares begins with square `bottom` and ends with square `last`
  pub filters_parts : {bottom last : ℕ} → bottom ≡ (H - 1) * W → last ≡ (H - 1) * W + (W - 1) → (v : List ℤ) {v1 v2 v3 v4 : List ℤ} → v1 ≡ undo (corners size (W - 1) bottom last) v
      → v2 ≡ undo (edges size (edges_of (W - 1) W 1 4 (H - 1))) v1 → v3 ≡ undo (edges size (edges_of bottom 1 4 1 (W - 1))) v2 → v4 ≡ undo (square_filters W H) v3 → v4 ≡ undo (filters W H) v
  unfolding filters
  filters_parts {bottom} {last} b l v d e f g = rw (g, f, e, d, rows_are bottom b, columns_are, corners_are bottom last b l) (simp undo_then)
