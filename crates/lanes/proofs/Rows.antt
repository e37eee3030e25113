-- Rows of a grid held in lanes, and moved out again number by number: four at a time, and a row of sixteen after the other.
use Prim.Native.Nat.{ℕ, ◌+◌, ◌-◌, ◌*◌, ◌/◌, ◌%◌, ◌≤◌, ◌<◌}
use mathlib.Core.Path.{◌≡◌, refl, sym, ◌∙◌, ap}
use mathlib.Core.List.{List, [], ◌∷◌, ◌++◌, map}
use native.Mathlib.Omega.{arith}
use native.Mathlib.Decide.{ℕ_discrete, dec_lt}
use lib.Dec.{T}
use lib.ListN.{length}
use lib.IntN.{ℤ}
use Rattle.lifting.specs.Program.{at, get, put}
use Rattle.lifting.specs.Valid.{places}
use Rattle.lifting.proofs.Reverse.{get-put, length-put}
use Rattle.lifting.proofs.Locality.{agree_refl, put_keeps}
use Rattle.figures.specs.Block.{four, flat}
use Rattle.transform.specs.Level.{strip, square}
use Rattle.picture.specs.Table.{table}
use Rattle.picture.proofs.Table.{at_table, table_same}
use Rattle.transform.proofs.Squares.{sixteen, get_sixteen}
use Rattle.transform.proofs.Levels.{rising_places}
use Rattle.transform.proofs.Cells.{all-strip}
use Rattle.grid.proofs.Rows.{row_inside}
use Rattle.lanes.specs.Lanes.{lane_of, InLanes, Moved, Placed}

-- ---- four places

pub four-numbers : (v : List ℤ) {a b c d a' b' c' d' : ℕ} → a ≡ a' → b ≡ b' → c ≡ c' → d ≡ d'
    → at v a ∷ at v b ∷ at v c ∷ at v d ∷ [] ≡ at v a' ∷ at v b' ∷ at v c' ∷ at v d' ∷ []
four-numbers v a b c d = rw (a, b, c, d)

strip-table : (step i : ℕ) (v : List ℤ) → get (strip step i) v ≡ table 4 (λ l. at v (i + step * l))
unfolding get table
strip-table step i v = four-numbers v (omega arith) (omega arith) (omega arith) (omega arith)

-- four numbers read at a distance and stored side by side: each at its place, and the others stay
module _ (s v x : List ℤ) {u : List ℤ} (step i j : ℕ) (read : four x ≡ get (strip step j) s) (stored : u ≡ put (strip 1 i) (four x) v) where
  pub four-own : i + 3 < length v → (l : ℕ) → l < 4 → at u (i + l) ≡ at s (j + step * l)
  four-own h l m =
      ap (at u) there
      ∙ sym (at_table 4 (λ n. at u (i + 1 * n)) l m)
      ∙ ap (λ w. at w l) (sym (strip-table 1 i u) ∙ ap (get (strip 1 i)) stored ∙ get-put (strip 1 i) (four x) v room refl refl ∙ read ∙ strip-table step j s)
      ∙ at_table 4 (λ n. at s (j + step * n)) l m
    where
      there : i + l ≡ i + 1 * l
      there = omega arith

      room : T (places (length v) (strip 1 i))
      room = rising_places i (length v) (strip 1 i) (omega arith, (omega arith, (omega arith, (omega arith, omega arith))))

  pub four-rest : (k : ℕ) → ¬ ((i ≤ k) × (k < i + 4)) → at u k ≡ at v k
  four-rest k n =
      ap (λ w. at w k) stored
      ∙ (put_keeps (λ m. ¬ ((i ≤ m) × (m < i + 4))) (strip 1 i) (four x)
      (all-strip (λ m. ¬ (¬ ((i ≤ m) × (m < i + 4)))) 1 i (λ f. f (omega arith, omega arith)) (λ f. f (omega arith, omega arith)) (λ f. f (omega arith, omega arith)) (λ f. f (omega arith, omega arith)))
      agree_refl).same k n

  pub four-len : length u ≡ length v
  four-len = ap length stored ∙ length-put (strip 1 i) (four x) v

-- ---- numbers in a row

pub moved_none : (s : List ℤ) (from : ℕ) (v : List ℤ) (to : ℕ) → Moved s from 0 v to v
moved_none s from v to = record { len = refl; own = λ x h. absurd (omega arith); rest = λ i h. refl }

pub moved_more : {s old v u : List ℤ} (y : List ℤ) (from n to i j : ℕ) → i ≡ to + n → j ≡ from + n → i + 3 < length v → four y ≡ get (strip 1 j) s → u ≡ put (strip 1 i) (four y) v
    → Moved s from n old to v → Moved s from (n + 4) old to u
moved_more {s} {old} {v} {u} y from n to i j p q room read stored r = record {
  len = four-len s v y 1 i j read stored ∙ r.len;
  own = λ x h. own x h (dec_lt x n);
  rest = λ k h. four-rest s v y 1 i j read stored k (λ z. h (omega arith, omega arith)) ∙ r.rest k (λ z. h (omega arith, omega arith));
}
  where
    own : (x : ℕ) → x < n + 4 → Dec (x < n) → at u (to + x) ≡ at s (from + x)
    own x h (yes l) = four-rest s v y 1 i j read stored (to + x) (λ z. absurd (omega arith)) ∙ r.own x l
    own x h (no o) =
        let l : x - n < 4 = omega (arith, o) in
        let e : to + x ≡ i + (x - n) = omega (arith, o) in
        let f : j + 1 * (x - n) ≡ from + x = omega (arith, o) in
        ap (at u) e ∙ four-own s v y 1 i j read stored room (x - n) l ∙ ap (at s) f

-- ---- squares, number by number

four_more : {a b c d a' b' c' d' : ℕ} {l l' : List ℕ} → a ≡ a' → b ≡ b' → c ≡ c' → d ≡ d' → l ≡ l' → a ∷ b ∷ c ∷ d ∷ l ≡ a' ∷ b' ∷ c' ∷ d' ∷ l'
four_more a b c d e = rw (a, b, c, d, e)

-- the sixteen places of a square
pub square-is : (w i : ℕ) → square w i ≡ map (λ k. i + k / 4 * w + k % 4) sixteen
unfolding square
square-is w i =
    four_more (omega arith) (omega arith) (omega arith) (omega arith)
    (four_more (omega arith) (omega arith) (omega arith) (omega arith)
    (four_more (omega arith) (omega arith) (omega arith) (omega arith)
    (four_more (omega arith) (omega arith) (omega arith) (omega arith) refl)))

pub square-numbers : (w i : ℕ) (v : List ℤ) → get (square w i) v ≡ table 16 (λ k. at v (i + k / 4 * w + k % 4))
square-numbers w i v = rw (square-is w i) (get_sixteen (λ k. i + k / 4 * w + k % 4) v)

-- number k of a square
pub square-at : (w i : ℕ) (v : List ℤ) (k : ℕ) → k < 16 → at (get (square w i) v) k ≡ at v (i + k / 4 * w + k % 4)
square-at w i v k h = ap (λ x. at x k) (square-numbers w i v) ∙ at_table 16 (λ n. at v (i + n / 4 * w + n % 4)) k h

-- ---- lanes

pub joined : {x x' y y' z z' w w' : List ℤ} → x ≡ x' → y ≡ y' → z ≡ z' → w ≡ w' → x ++ y ++ z ++ w ≡ x' ++ y' ++ z' ++ w'
joined a b c d = rw (a, b, c, d)

-- a square read row by row
pub four-rows : (p q r s : List ℤ) {x y z w : List ℤ} → four p ≡ x → four q ≡ y → four r ≡ z → four s ≡ w → flat (p ∷ q ∷ r ∷ s ∷ []) ≡ x ++ y ++ z ++ w
unfolding flat
four-rows p q r s a b c d = joined a b c d

-- rows of four squares side by side, the first at place i of a grid of w columns
pub lanes_held : (s a b c d : List ℤ) (w i : ℕ) → InLanes s 4 i a → InLanes s 4 (i + w) b → InLanes s 4 (i + w + w) c → InLanes s 4 (i + w + w + w) d
    → (l : ℕ) → l < 4 → lane_of a b c d l ≡ get (square w (i + 4 * l)) s
unfolding get square
lanes_held s a b c d w i p q r t l h = joined (p.own l h) (q.own l h ∙ from (omega arith)) (r.own l h ∙ from (omega arith)) (t.own l h ∙ from (omega arith))
  where
    from : {j k : ℕ} → j ≡ k → get (strip 1 j) s ≡ get (strip 1 k) s
    from e = rw e

-- ---- squares moved out

-- the first m rows of four squares moved out
record RowsOut (s old : List ℤ) (w first m : ℕ) (v : List ℤ) : Type 0 where
  pub len : length v ≡ length old
  pub own : (r x : ℕ) → r < m → x < 16 → at v (first + r * w + x) ≡ at s (16 * r + x)
  pub rest : (i : ℕ) → ((r x : ℕ) → r < m → x < 16 → ¬ (i ≡ first + r * w + x)) → at v i ≡ at old i

rows_out_more : (s old v u : List ℤ) (w first m from to : ℕ) → 16 ≤ w → from ≡ 16 * m → to ≡ first + m * w → RowsOut s old w first m v → Moved s from 16 v to u → RowsOut s old w first (m + 1) u
rows_out_more s old v u w first m from to wide e f rows r = record {
  len = r.len ∙ rows.len;
  own = λ n x h l. own n x h l (ℕ_discrete n m);
  rest = λ i h. r.rest i (λ z. h m (i - to) (omega arith) (omega arith) (omega arith)) ∙ rows.rest i (λ n x l. h n x (omega arith));
}
  where
    own : (n x : ℕ) → n < m + 1 → x < 16 → Dec (n ≡ m) → at u (first + n * w + x) ≡ at s (16 * n + x)
    own n x h l (yes q) =
        let a : first + n * w + x ≡ to + x = rw q (omega arith) in
        let b : from + x ≡ 16 * n + x = omega arith in
        ap (at u) a ∙ r.own x l ∙ ap (at s) b
    own n x h l (no o) =
        let less : n < m = omega (arith, o) in
        let above = row_inside n m w less in
        r.rest (first + n * w + x) (λ z. absurd (omega arith)) ∙ rows.own n x less l

pub all_placed : (s v0 v1 v2 v3 v4 : List ℤ) (w first : ℕ) → 16 ≤ w → Moved s 0 16 v0 first v1 → Moved s 16 16 v1 (first + w) v2 → Moved s 32 16 v2 (first + w + w) v3 → Moved s 48 16 v3 (first + w + w + w) v4
    → Placed s v0 w first v4
all_placed s v0 v1 v2 v3 v4 w first wide a b c d = record {
  len = rows.len;
  own = λ l h. square-numbers w (first + 4 * l) v4 ∙ table_same 16 _ _ (λ k m. own l k h m) ∙ sym (square-numbers 16 (4 * l) s);
  rest = rows.rest;
}
  where
    none : RowsOut s v0 w first 0 v0
    none = record { len = refl; own = λ r x h l. absurd (omega arith); rest = λ i h. refl }

    rows : RowsOut s v0 w first 4 v4
    rows =
        rows_out_more s v0 v3 v4 w first 3 _ _ wide refl (omega arith)
        (rows_out_more s v0 v2 v3 w first 2 _ _ wide refl (omega arith)
        (rows_out_more s v0 v1 v2 w first 1 _ _ wide refl (omega arith)
        (rows_out_more s v0 v0 v1 w first 0 _ _ wide refl (omega arith) none a) b) c) d

    own : (l k : ℕ) → l < 4 → k < 16 → at v4 (first + 4 * l + k / 4 * w + k % 4) ≡ at s (4 * l + k / 4 * 16 + k % 4)
    own l k h m =
        let e : first + 4 * l + k / 4 * w + k % 4 ≡ first + k / 4 * w + (4 * l + k % 4) = omega arith in
        let f : 16 * (k / 4) + (4 * l + k % 4) ≡ 4 * l + k / 4 * 16 + k % 4 = omega arith in
        ap (at v4) e ∙ rows.own (k / 4) (4 * l + k % 4) (omega arith) (omega arith) ∙ ap (at s) f
