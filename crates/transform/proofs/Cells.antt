-- The places of each use of a stage lie in one cell, a 4 x 4 square of the grid moved d up and left: d = 0 for the cores, 2 for the filters.
-- So a set of places that goes by the cell has each use wholly inside it or wholly outside.
use Prim.Native.Nat.{ℕ, ◌+◌, ◌-◌, ◌*◌, ◌/◌, ◌%◌, ◌≤◌, ◌<◌}
use mathlib.Core.Path.{◌≡◌, refl}
use mathlib.Core.List.{List, [], ◌∷◌, ◌++◌}
use native.Mathlib.Omega.{arith}
use native.Mathlib.Nat.{add-mul}
use lib.Arith.{digits_div, digits_mod}
use Rattle.lifting.proofs.Between.{All, all_map}
use Rattle.transform.specs.Level.{cell, strip, square, corner}

-- the cell of row (or column) r
abbrev pub zone : ℕ → ℕ → ℕ
zone d r = (r + d) / 4

-- the place i of a grid of p squares across lies in the cell (a, b)
pub record InCell (d p a b i : ℕ) : Type 0 where
  pub row : zone d (i / (4 * p)) ≡ a
  pub column : zone d (i % (4 * p)) ≡ b

all_append : (P : ℕ → Type 0) (ps qs : List ℕ) → All P ps → All P qs → All P (ps ++ qs)
all_append P [] qs h k = k
all_append P (p ∷ ps) qs h k = (h.0, all_append P ps qs h.1 k)

-- four places, and a square by its rows
pub all-strip : (P : ℕ → Type 0) (step i : ℕ) → P i → P (i + step) → P (i + step + step) → P (i + step + step + step) → All P (strip step i)
all-strip P step i h k l m = (h, (k, (l, (m, tt))))

pub all-square : (P : ℕ → Type 0) (w i : ℕ) → All P (strip 1 i) → All P (strip 1 (i + w)) → All P (strip 1 (i + w + w)) → All P (strip 1 (i + w + w + w)) → All P (square w i)
unfolding square
all-square P w i h k l m =
    let third = strip 1 (i + w + w) in
    let fourth = strip 1 (i + w + w + w) in
    all_append P (strip 1 i) (strip 1 (i + w) ++ third ++ fourth) h (all_append P (strip 1 (i + w)) (third ++ fourth) k (all_append P third fourth l m))

-- ---- places by their row and column: Q of both, at four places along a row, four down a column, and the places of a corner and of a square

abbrev pub row : ℕ → ℕ → ℕ
row p i = i / (4 * p)

abbrev pub column : ℕ → ℕ → ℕ
column p i = i % (4 * p)

module _ (p : ℕ) (Q : ℕ → ℕ → Type 0) where
  abbrev pub On : ℕ → Type 0
  On i = Q (row p i) (column p i)

  on : (r c : ℕ) {i : ℕ} → i ≡ cell p r c → c < 4 * p → Q r c → On i
  on r c e h k = rw (e, digits_div r h, digits_mod r h) k

  down : (r c i : ℕ) → i ≡ cell p r c → i + 4 * p ≡ cell p (r + 1) c
  down r c i e = rw (add-mul r 1 (4 * p)) (omega arith)

  pub on_across : (r c i : ℕ) → i ≡ cell p r c → c + 3 < 4 * p → Q r c → Q r (c + 1) → Q r (c + 2) → Q r (c + 3) → All On (strip 1 i)
  on_across r c i e h k l m n =
      all-strip On 1 i (on r c e (omega arith) k) (on r (c + 1) (omega arith) (omega arith) l) (on r (c + 2) (omega arith) (omega arith) m) (on r (c + 3) (omega arith) h n)

  pub on_down : (r c i : ℕ) → i ≡ cell p r c → c < 4 * p → Q r c → Q (r + 1) c → Q (r + 1 + 1) c → Q (r + 1 + 1 + 1) c → All On (strip (4 * p) i)
  on_down r c i e h k l m n =
      let e1 = down r c i e in
      let e2 = down (r + 1) c (i + 4 * p) e1 in
      let e3 = down (r + 1 + 1) c (i + 4 * p + 4 * p) e2 in
      all-strip On (4 * p) i (on r c e h k) (on (r + 1) c e1 h l) (on (r + 1 + 1) c e2 h m) (on (r + 1 + 1 + 1) c e3 h n)

  pub on_corner : (r c i : ℕ) → i ≡ cell p r c → c + 1 < 4 * p → Q r c → Q r (c + 1) → Q (r + 1) c → Q (r + 1) (c + 1) → All On (corner (4 * p) i)
  on_corner r c i e h k l m n =
      let e1 = down r c i e in
      (on r c e (omega arith) k, (on r (c + 1) (omega arith) h l, (on (r + 1) c e1 (omega arith) m, (on (r + 1) (c + 1) (omega arith) h n, tt))))

  pub on_square : (r c i : ℕ) → i ≡ cell p r c → c + 3 < 4 * p → ((j k : ℕ) → r ≤ j → j < r + 4 → c ≤ k → k < c + 4 → Q j k) → All On (square (4 * p) i)
  on_square r c i e h q =
      let e1 = down r c i e in
      let e2 = down (r + 1) c (i + 4 * p) e1 in
      let e3 = down (r + 1 + 1) c (i + 4 * p + 4 * p) e2 in
      all-square On (4 * p) i
      (across r i e (omega arith) (omega arith))
      (across (r + 1) (i + 4 * p) e1 (omega arith) (omega arith))
      (across (r + 1 + 1) (i + 4 * p + 4 * p) e2 (omega arith) (omega arith))
      (across (r + 1 + 1 + 1) (i + 4 * p + 4 * p + 4 * p) e3 (omega arith) (omega arith))
    where
      across : (j i : ℕ) → i ≡ cell p j c → r ≤ j → j < r + 4 → All On (strip 1 i)
      across j i e l m =
          on_across j c i e h (q j c l m (omega arith) (omega arith)) (q j (c + 1) l m (omega arith) (omega arith)) (q j (c + 2) l m (omega arith) (omega arith)) (q j (c + 3) l m (omega arith) (omega arith))

-- ---- places of one cell

module _ (d p a b : ℕ) where
  abbrev Here : ℕ → ℕ → Type 0
  Here r c = (zone d r ≡ a) × (zone d c ≡ b)

  here : (i : ℕ) → On p Here i → InCell d p a b i
  here i h = record { row = h.0; column = h.1 }

  pub in_cell : (r c : ℕ) {i : ℕ} → i ≡ cell p r c → c < 4 * p → zone d r ≡ a → zone d c ≡ b → InCell d p a b i
  in_cell r c {i} e h f g = here i (on p Here r c e h (f, g))

  -- four places along a row, and four down a column, of which the first and the last lie in one cell
  pub strip_across : (r c i : ℕ) → i ≡ cell p r c → c + 3 < 4 * p → zone d r ≡ a → zone d c ≡ b → zone d (c + 3) ≡ b → All (InCell d p a b) (strip 1 i)
  strip_across r c i e h f g k = all_map (strip 1 i) here (on_across p Here r c i e h (f, g) (f, omega arith) (f, omega arith) (f, k))

  pub strip_down : (r c i : ℕ) → i ≡ cell p r c → c < 4 * p → zone d r ≡ a → zone d (r + 3) ≡ a → zone d c ≡ b → All (InCell d p a b) (strip (4 * p) i)
  strip_down r c i e h f g k = all_map (strip (4 * p) i) here (on_down p Here r c i e h (f, k) (omega arith, k) (omega arith, k) (omega arith, k))

  -- a corner and a square of which the first and the last place lie in one cell
  pub corner_in_cell : (r c i : ℕ) → i ≡ cell p r c → c + 1 < 4 * p → zone d r ≡ a → zone d (r + 1) ≡ a → zone d c ≡ b → zone d (c + 1) ≡ b → All (InCell d p a b) (corner (4 * p) i)
  corner_in_cell r c i e h f g k l = all_map (corner (4 * p) i) here (on_corner p Here r c i e h (f, k) (f, l) (g, k) (g, l))

  pub square_in_cell : (r c i : ℕ) → i ≡ cell p r c → c + 3 < 4 * p → zone d r ≡ a → zone d (r + 3) ≡ a → zone d c ≡ b → zone d (c + 3) ≡ b → All (InCell d p a b) (square (4 * p) i)
  square_in_cell r c i e h f g k l = all_map (square (4 * p) i) here (on_square p Here r c i e h (λ j m s t u w. (omega arith, omega arith)))

-- ---- the uses of each stage

pub core_in_cell : (p j i : ℕ) → i < p → All (InCell 0 p j i) (square (4 * p) (cell p (4 * j) (4 * i)))
core_in_cell p j i h = square_in_cell 0 p j i (4 * j) (4 * i) _ refl (omega arith) (omega arith) (omega arith) (omega arith) (omega arith)

pub square_filter_in_cell : (p j i : ℕ) → i < p - 1 → All (InCell 2 p (j + 1) (i + 1)) (square (4 * p) (cell p (4 * j + 2) (4 * i + 2)))
square_filter_in_cell p j i h =
    square_in_cell 2 p (j + 1) (i + 1) (4 * j + 2) (4 * i + 2) _ refl (omega arith) (omega arith) (omega arith) (omega arith) (omega arith)

pub row_filter_in_cell : (p r i : ℕ) → i < p - 1 → All (InCell 2 p (zone 2 r) (i + 1)) (strip 1 (cell p r (4 * i + 2)))
row_filter_in_cell p r i h = strip_across 2 p (zone 2 r) (i + 1) r (4 * i + 2) _ refl (omega arith) refl (omega arith) (omega arith)

pub column_filter_in_cell : (p c j : ℕ) → c < 4 * p → All (InCell 2 p (j + 1) (zone 2 c)) (strip (4 * p) (cell p (4 * j + 2) c))
column_filter_in_cell p c j h = strip_down 2 p (j + 1) (zone 2 c) (4 * j + 2) c _ refl h (omega arith) (omega arith) refl

-- rows r and r + 1 in one cell of the filters, and columns c and c + 1
pub corner_filter_in_cell : (p r c : ℕ) → c + 1 < 4 * p → zone 2 (r + 1) ≡ zone 2 r → zone 2 (c + 1) ≡ zone 2 c → All (InCell 2 p (zone 2 r) (zone 2 c)) (corner (4 * p) (cell p r c))
corner_filter_in_cell p r c h e f = corner_in_cell 2 p (zone 2 r) (zone 2 c) r c _ refl h refl e refl f
