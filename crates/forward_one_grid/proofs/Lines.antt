-- Four numbers read or stored one after another are two of one square and two of another. Across an edge these are a strip of the grid, in one square a corner of it;
-- four strips are a window.
use Prim.Native.Nat.{ℕ, ◌+◌, ◌*◌, ◌/◌, ◌%◌, ◌≤◌, ◌<◌}
use mathlib.Core.Path.{◌≡◌, refl, ◌∙◌, ap}
use mathlib.Core.List.{List, [], ◌∷◌}
use native.Mathlib.Omega.{arith}
use lib.Arith.{digits_lt, digits_div, digits_mod}
use lib.ListN.{get_or, set}
use lib.IntN.{ℤ}
use lib.Signed.{mag}
use Rattle.lifting.specs.Program.{at, get, put}
use Rattle.lifting.proofs.Bits.{back}
use Rattle.figures.specs.Block.{four, flat}
use Rattle.figures.proofs.Parts.{kept}
use Rattle.picture.specs.declared.size.Size.{Size}
use Rattle.transform.specs.Level.{cell, strip, square, corner}
use Rattle.transform.specs.Grids.{place}
use Rattle.picture.specs.Sizes.{macroblocks, Sized}
use Rattle.picture.proofs.CheckLaws.{few}
use Rattle.grid.proofs.Squares.{square_read, square_stored}
use Rattle.forward_one_grid.specs.declared.places.Pairs.{Pairs}
use Rattle.forward_one_grid.specs.declared.places.Window.{Window}
use Rattle.forward_one_grid.specs.Places.{pairs, from_to, Inside, Meets}

-- ---- four reads, and four stores

pub record Read (v : List ℤ) (place : ℕ) (x : ℤ) : Type 0 where
  pub fits : mag x < 2147483648
  pub is : x ≡ at v place

pub fours_read : {v : List ℤ} {p q r s : ℕ} {a b c d : ℤ} → Read v p a → Read v q b → Read v r c → Read v s d
    → kept a ∷ kept b ∷ kept c ∷ kept d ∷ [] ≡ get (p ∷ q ∷ r ∷ s ∷ []) v
unfolding get
fours_read e f g h = rw (back e.fits ∙ e.is, back f.fits ∙ f.is, back g.fits ∙ g.is, back h.fits ∙ h.is)

pub record Stored (v w : List ℤ) (place : ℕ) (x : ℤ) : Type 0 where
  pub fits : mag x < 2147483648
  pub is : w ≡ set v place (kept x)

pub fours_stored : {v v1 v2 v3 v4 : List ℤ} {p q r s : ℕ} {a b c d : ℤ} → Stored v v1 p a → Stored v1 v2 q b → Stored v2 v3 r c → Stored v3 v4 s d
    → v4 ≡ put (p ∷ q ∷ r ∷ s ∷ []) (a ∷ b ∷ c ∷ d ∷ []) v
unfolding put
fours_stored e f g h = h.is ∙ rw (g.is, f.is, e.is, back e.fits, back f.fits, back g.fits, back h.fits)

-- ---- lines across an edge as strips, and corners

fours : {a b c d a' b' c' d' : ℕ} → a ≡ a' → b ≡ b' → c ≡ c' → d ≡ d' → a ∷ b ∷ c ∷ d ∷ [] ≡ a' ∷ b' ∷ c' ∷ d' ∷ []
fours e f g h = rw (e, f, g, h)

-- coefficient k of square s, which stands in row j and column i of squares, in row y and column x of that square
place_is : {W : ℕ} (s j i k y x : ℕ) → s ≡ j * W + i → i < W → k / 4 ≡ y → k % 4 ≡ x → place W s k ≡ cell W (4 * j + y) (4 * i + x)
place_is s j i k y x e h f g = rw (e, digits_div j h, digits_mod j h, f, g)

module _ (size : Size) (t u j i : ℕ) where
  abbrev W : ℕ
  W = size.width.0

  -- along row r of squares (j, i) and (j, i + 1)
  pub row_line : (r : ℕ) → t ≡ j * W + i → u ≡ t + 1 → i + 1 < W → pairs size (from_to t (4 * r + 2) u (4 * r) 1) ≡ strip 1 (cell W (4 * j + r) (4 * i + 2))
  row_line r e f h =
      fours (place_is t j i (4 * r + 2) r 2 e (omega arith) (omega arith) (omega arith))
      (place_is t j i (4 * r + 2 + 1) r 3 e (omega arith) (omega arith) (omega arith) ∙ omega arith)
      (place_is u j (i + 1) (4 * r) r 0 (omega arith) h (omega arith) (omega arith) ∙ omega arith)
      (place_is u j (i + 1) (4 * r + 1) r 1 (omega arith) h (omega arith) (omega arith) ∙ omega arith)

  -- down column c of squares (j, i) and (j + 1, i)
  pub column-line : (c : ℕ) → c < 4 → t ≡ j * W + i → u ≡ t + W → i < W → pairs size (from_to t (c + 8) u c 4) ≡ strip (4 * W) (cell W (4 * j + 2) (4 * i + c))
  column-line c l e f h =
      fours (place_is t j i (c + 8) 2 c e h (omega arith) (omega arith))
      (place_is t j i (c + 8 + 4) 3 c e h (omega arith) (omega arith) ∙ omega arith)
      (place_is u (j + 1) i c 0 c (omega arith) h (omega arith) (omega arith) ∙ omega arith)
      (place_is u (j + 1) i (c + 4) 1 c (omega arith) h (omega arith) (omega arith) ∙ omega arith)

-- from row y and column x of square (j, i) on
pub corner-is : (size : Size) (t j i y x : ℕ) → t ≡ j * size.width.0 + i → i < size.width.0 → x < 3 → pairs size (from_to t (4 * y + x) t (4 * y + x + 4) 1) ≡ corner (4 * size.width.0) (cell size.width.0 (4 * j + y) (4 * i + x))
corner-is size t j i y x e h l =
    fours (place_is t j i (4 * y + x) y x e h (omega arith) (omega arith))
    (place_is t j i (4 * y + x + 1) y (x + 1) e h (omega arith) (omega arith) ∙ omega arith)
    (place_is t j i (4 * y + x + 4) (y + 1) x e h (omega arith) (omega arith) ∙ omega arith)
    (place_is t j i (4 * y + x + 4 + 1) (y + 1) (x + 1) e h (omega arith) (omega arith) ∙ omega arith)

-- ---- windows

-- the squares of a window: t, t + 1, u and u + 1, which lie in the picture, which is small
pub record Meeting (size : Size) (w : Window) (u : ℕ) : Type 0 where
  pub meets : Meets size w
  pub lower : u ≡ w.t + size.width.0
  pub below : u + 1 < macroblocks size
  pub few : macroblocks size ≤ 216825

pub meeting : {size : Size} {w : Window} {width : ℕ} → Sized size → width ≡ size.width.0 → Meets size w → Meeting size w (w.t + width)
meeting {size} {w} s e m =
    record {
      meets = m;
      lower = ap (λ (k : ℕ). w.t + k) e;
      below = omega (arith, digits_lt m.below m.beside, m);
      few = few size.width.0 size.height.0 s.most-wide s.most-tall;
    }

module _ {size : Size} {w : Window} {u : ℕ} (at : Meeting size w u) where
  -- its lines lie in the grid
  pub upper-inside : (r : ℕ) → r < 4 → (w.t < 216825) × Inside size (from_to w.t (4 * r + 2) (w.t + 1) (4 * r) 1)
  upper-inside r h = (omega (arith, at), record { t = omega (arith, at); u = omega (arith, at); k = omega arith; l = omega arith })

  pub lower-inside : (r : ℕ) → r < 4 → (u < 216825) × Inside size (from_to u (4 * r + 2) (u + 1) (4 * r) 1)
  lower-inside r h = (omega (arith, at), record { t = omega (arith, at); u = omega (arith, at); k = omega arith; l = omega arith })

  abbrev across : ℕ
  across = 4 * size.width.0

  abbrev from : ℕ
  from = cell size.width.0 (4 * w.j + 2) (4 * w.i + 2)

  lines : (pairs size (from_to w.t 10 (w.t + 1) 8 1) ≡ strip 1 from) × (pairs size (from_to w.t 14 (w.t + 1) 12 1) ≡ strip 1 (from + across))
      × (pairs size (from_to u 2 (u + 1) 0 1) ≡ strip 1 (from + across + across)) × (pairs size (from_to u 6 (u + 1) 4 1) ≡ strip 1 (from + across + across + across))
  lines = let m = at.meets in (
    row_line size w.t (w.t + 1) w.j w.i 2 m.first refl m.beside,
    row_line size w.t (w.t + 1) w.j w.i 3 m.first refl m.beside ∙ ap (strip 1) (omega arith),
    row_line size u (u + 1) (w.j + 1) w.i 0 (omega (arith, m.first, at.lower)) refl m.beside ∙ ap (strip 1) (omega arith),
    row_line size u (u + 1) (w.j + 1) w.i 1 (omega (arith, m.first, at.lower)) refl m.beside ∙ ap (strip 1) (omega arith),
  )

  pub window_read : (v p q r s : List ℤ) {a b c d : Pairs} → a ≡ from_to w.t 10 (w.t + 1) 8 1 → b ≡ from_to w.t 14 (w.t + 1) 12 1 → c ≡ from_to u 2 (u + 1) 0 1 → d ≡ from_to u 6 (u + 1) 4 1
      → four p ≡ get (pairs size a) v → four q ≡ get (pairs size b) v → four r ≡ get (pairs size c) v → four s ≡ get (pairs size d) v
      → flat (p ∷ q ∷ r ∷ s ∷ []) ≡ get (square across from) v
  window_read v p q r s e f g h a b c d =
      square_read v across from p q r s (a ∙ to e lines.0) (b ∙ to f lines.1) (c ∙ to g lines.2) (d ∙ to h lines.3)
    where
      to : {x y : Pairs} {ps : List ℕ} → x ≡ y → pairs size y ≡ ps → get (pairs size x) v ≡ get ps v
      to e f = ap (λ p. get (pairs size p) v) e ∙ ap (λ ps. get ps v) f

  pub window_stored : (m : List (List ℤ)) (v : List ℤ) {a b c d : Pairs} {v1 v2 v3 v4 : List ℤ} → a ≡ from_to w.t 10 (w.t + 1) 8 1 → b ≡ from_to w.t 14 (w.t + 1) 12 1
      → c ≡ from_to u 2 (u + 1) 0 1 → d ≡ from_to u 6 (u + 1) 4 1 → v1 ≡ put (pairs size a) (four (get_or m 0 [])) v → v2 ≡ put (pairs size b) (four (get_or m 1 [])) v1
      → v3 ≡ put (pairs size c) (four (get_or m 2 [])) v2 → v4 ≡ put (pairs size d) (four (get_or m 3 [])) v3 → v4 ≡ put (square across from) (flat m) v
  window_stored m v {v1 = v1} {v2} {v3} e f g h a b c d =
      square_stored v across from m (a ∙ to e lines.0 _ v) (b ∙ to f lines.1 _ v1) (c ∙ to g lines.2 _ v2) (d ∙ to h lines.3 _ v3)
    where
      to : {x y : Pairs} {ps : List ℕ} → x ≡ y → pairs size y ≡ ps → (xs v : List ℤ) → put (pairs size x) xs v ≡ put ps xs v
      to e f xs v = ap (λ p. put (pairs size p) xs v) e ∙ ap (λ ps. put ps xs v) f
