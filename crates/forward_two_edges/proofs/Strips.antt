-- The strip filled piece by piece: what is stored along a line, what that settles by rows and columns, and how settled rows and columns join.
use Prim.Native.Nat.{ℕ, ◌+◌, ◌-◌, ◌*◌, ◌/◌, ◌%◌, ◌≤◌, ◌<◌}
use mathlib.Core.Path.{◌≡◌, refl, sym, ◌∙◌, ap, ap₂}
use mathlib.Core.Logic.{by_cases}
use mathlib.Core.List.{List}
use native.Mathlib.Omega.{arith}
use native.Mathlib.Decide.{ℕ_discrete, dec_lt}
use native.Mathlib.Nat.{add-mul}
use lib.ListN.{length, set, length-set}
use lib.Seq.{get_or-set_same, get_or-set_other}
use lib.IntN.{ℤ, pos}
use Rattle.lifting.specs.Program.{at, get, put, undo}
use Rattle.lifting.proofs.Reverse.{get-put, length-put}
use Rattle.lifting.proofs.Locality.{agree_refl, put_keeps}
use Rattle.figures.specs.Block.{four}
use Rattle.figures.specs.Figures.{four_filter}
use Rattle.transform.specs.Level.{cell, strip as line, corner, filters}
use Rattle.picture.specs.Sizes.{macroblocks, Sized}
use Rattle.picture.specs.declared.size.Size.{Size}
use Rattle.transform.proofs.Levels.{corner-places}
use Rattle.picture.proofs.CheckLaws.{few_macroblocks}
use Rattle.grid.proofs.Rows.{row_inside}
use Rattle.forward_kernel.proofs.Stores.{below-four}
use Rattle.forward_two_edges.specs.Unfiltered.{unfiltered, Edge, First}
use Rattle.forward_two_edges.specs.declared.macroblock.Macroblock.{Macroblock}
use Rattle.forward_two_edges.specs.Strip.{Holds, Kept, Spread, Columns, unfiltered_at}
use Rattle.forward_two_edges.proofs.Alone.{first_edge}
use Rattle.forward_two_edges.proofs.Numbers.{cell-low, at-four, row_at, column-at, corner-at}

-- ---- numbers along a line

pub spread_none : (i step : ℕ) (f : ℕ → ℤ) (v : List ℤ) → Spread i step 0 f v v
spread_none i step f v = record { len = refl; own = λ k h. absurd (omega arith); others = λ j h. refl }

spread_next : (i step n : ℕ) (f : ℕ → ℤ) {old mid : List ℤ} (j : ℕ) {x : ℤ} → 0 < step → j ≡ i + n * step → j < length old → x ≡ f n → Spread i step n f old mid → Spread i step (n + 1) f old (set mid j x)
spread_next i step n f {old} {mid} j {x} far e room q p = record {
  len = length-set mid j x ∙ p.len;
  own = λ k h. by_cases (ℕ_discrete k n)
      (λ y. ap (at (set mid j x)) (ap (λ (m : ℕ). i + m * step) y ∙ sym e) ∙ get_or-set_same mid j x (pos 0) (omega (arith, p.len)) ∙ q ∙ ap f (sym y))
      (λ o. get_or-set_other mid j (i + k * step) x (pos 0) (λ y. absurd (omega (arith, y, row_inside k n step (omega (arith, o))))) ∙ p.own k (omega (arith, o)));
  others = λ k h. get_or-set_other mid j k x (pos 0) (λ y. h n (omega arith) (y ∙ e)) ∙ p.others k (λ m l. h m (omega arith));
}

-- a four of samples read, unfiltered and stored
pub spread_four : (samples : List ℤ) (step a i far : ℕ) (x v : List ℤ) {old new : List ℤ} → 0 < far → i + far + far + far < length old → four x ≡ get (line step a) samples → four v ≡ undo four_filter (four x)
    → new ≡ put (line far i) (four v) old → Spread i far 4 (at (unfiltered_at samples step a)) old new
unfolding put unfiltered_at
spread_four samples step a i far x v {old} {new} some room e g w =
    let f = at (unfiltered_at samples step a) in
    let q : (k : ℕ) → k < 4 → at v k ≡ f k = λ k h. below-four (λ j. at v j ≡ at (four v) j) refl refl refl refl k h ∙ ap (λ y. at y k) (g ∙ ap (undo four_filter) e) in
    rw w
    (spread_next i far 3 f (i + far + far + far) some (omega arith) (omega arith) (q 3 (omega arith))
    (spread_next i far 2 f (i + far + far) some (omega arith) (omega arith) (q 2 (omega arith))
    (spread_next i far 1 f (i + far) some (omega arith) (omega arith) (q 1 (omega arith)) (spread_next i far 0 f i some (omega arith) (omega arith) (q 0 (omega arith)) (spread_none i far f old)))))

-- number j of the unfiltered fours that follow one another from place a on
abbrev pub fours_from : List ℤ → ℕ → ℕ → ℕ → ℤ
fours_from samples step a j = at (unfiltered_at samples step (a + 4 * step * (j / 4))) (j % 4)

-- one four more
pub spread_more : (samples : List ℤ) (step a i far n b j : ℕ) {old mid new : List ℤ} → 0 < far → b ≡ a + 4 * step * n → j ≡ i + 4 * n * far
    → Spread i far (4 * n) (fours_from samples step a) old mid → Spread j far 4 (at (unfiltered_at samples step b)) mid new → Spread i far (4 * (n + 1)) (fours_from samples step a) old new
spread_more samples step a i far n b j {old} {mid} {new} some here e p q =
    record {
      len = q.len ∙ p.len;
      own = λ k h. by_cases (dec_lt k (4 * n))
          (λ l. q.others (i + k * far) (λ m o y. absurd (omega (arith, y, e, row_inside k (4 * n) far l))) ∙ p.own k l)
          (λ l.
          let m = k - 4 * n in
          let d : 4 * n * far + m * far ≡ k * far = sym (add-mul (4 * n) m far) ∙ ap (λ (o : ℕ). o * far) (omega (arith, l)) in
          ap (at new) (omega (arith, d, e)) ∙ q.own m (omega (arith, l))
          ∙ ap₂ (λ (o u : ℕ). at (unfiltered_at samples step o) u) (here ∙ ap (λ (o : ℕ). a + 4 * step * o) (omega (arith, l))) (omega (arith, l)));
      others = λ k h. q.others k (λ m o y. h (4 * n + m) (omega arith) (y ∙ e' m)) ∙ p.others k (λ m o. h m (omega arith));
    }
  where
    e' : (m : ℕ) → j + m * far ≡ i + (4 * n + m) * far
    e' m = rw (add-mul (4 * n) m far) (omega arith)

-- ---- numbers down two columns

-- number j of the unfiltered fours in column b, of which the first begins at place a
abbrev pub fours_down : List ℤ → ℕ → ℕ → ℕ → ℕ → ℤ
fours_down samples w a b j = at (unfiltered_at samples w (a + b + 4 * w * (j / 4))) (j % 4)

-- one four more in each
pub columns_more : (samples : List ℤ) (w a i n p q j k : ℕ) {old mid one new : List ℤ} → p ≡ a + 4 * w * n → q ≡ a + 1 + 4 * w * n → j ≡ i + 288 * n → k ≡ i + 1 + 288 * n
    → Columns i (4 * n) (fours_down samples w a) old mid → Spread j 72 4 (at (unfiltered_at samples w p)) mid one → Spread k 72 4 (at (unfiltered_at samples w q)) one new
    → Columns i (4 * (n + 1)) (fours_down samples w a) old new
columns_more samples w a i n p q j k {old} {mid} {one} {new} here there e f c d g =
    record {
      len = g.len ∙ d.len ∙ c.len;
      own = λ b m hb hm. by_cases (dec_lt m (4 * n))
          (λ l. g.others (i + b + m * 72) (λ u o y. absurd (omega (arith, y))) ∙ d.others (i + b + m * 72) (λ u o y. absurd (omega (arith, y))) ∙ c.own b m hb l)
          (λ l. by_cases (ℕ_discrete b 0)
          (λ z. g.others (i + b + m * 72) (λ u o y. absurd (omega (arith, y, z))) ∙ ap (at one) (omega (arith, z, l)) ∙ d.own (m - 4 * n) (omega (arith, l)) ∙ same b m p (omega (arith, z)) hm l)
          (λ z. ap (at new) (omega (arith, z, l)) ∙ g.own (m - 4 * n) (omega (arith, l)) ∙ same b m q (omega (arith, z)) hm l));
      others = λ m h. g.others m (λ u o y. h 1 (4 * n + u) (omega arith) (omega arith) (omega (arith, y)))
          ∙ d.others m (λ u o y. h 0 (4 * n + u) (omega arith) (omega arith) (omega (arith, y))) ∙ c.others m (λ b u hb hu. h b u hb (omega arith));
    }
  where
    same : (b m r : ℕ) → r ≡ a + b + 4 * w * n → m < 4 * (n + 1) → ¬ (m < 4 * n) → at (unfiltered_at samples w r) (m - 4 * n) ≡ fours_down samples w a b m
    same b m r x hm l = ap₂ (λ (o u : ℕ). at (unfiltered_at samples w o) u) (x ∙ ap (λ (o : ℕ). a + b + 4 * w * o) (omega (arith, l))) (omega (arith, l))

-- ---- rows and columns that join

module _ {size : Size} {samples : List ℤ} (r c : ℕ) where
  pub holds_kept : (t b l k t' b' l' k' : ℕ) {old new : List ℤ} → k ≤ 72 → ((y x : ℕ) → t ≤ y → y < b → l ≤ x → x < k → t' ≤ y → y < b' → l' ≤ x → x < k' → ⊥)
      → Holds size samples r c t b l k old → Kept t' b' l' k' old new → Holds size samples r c t b l k new
  holds_kept t b l k t' b' l' k' h apart d e = record { there = λ y x f g m n u v. e.same y x (omega arith) (apart y x f g m n) ∙ d.there y x f g m n u v }

  pub holds_under : (t m b l k : ℕ) {v : List ℤ} → Holds size samples r c t m l k v → Holds size samples r c m b l k v → Holds size samples r c t b l k v
  holds_under t m b l k d e = record { there = λ y x f g n o u v. by_cases (dec_lt y m) (λ z. d.there y x f z n o u v) (λ z. e.there y x (omega (arith, z)) g n o u v) }

  pub holds_beside : (t b l m k : ℕ) {v : List ℤ} → Holds size samples r c t b l m v → Holds size samples r c t b m k v → Holds size samples r c t b l k v
  holds_beside t b l m k d e = record { there = λ y x f g n o u v. by_cases (dec_lt x m) (λ z. d.there y x f g n z u v) (λ z. e.there y x f g (omega (arith, z)) o u v) }

  pub holds_as : {t b l k : ℕ} (t' b' l' k' : ℕ) {v : List ℤ} → t ≤ t' → b' ≤ b → l ≤ l' → k' ≤ k → Holds size samples r c t b l k v → Holds size samples r c t' b' l' k' v
  holds_as t' b' l' k' e f g h d = record { there = λ y x m n o p u v. d.there y x (omega arith) (omega arith) (omega arith) (omega arith) u v }

pub kept_as : {t b l k : ℕ} (t' b' l' k' : ℕ) {old new : List ℤ} → t' ≤ t → b ≤ b' → l' ≤ l → k ≤ k' → Kept t b l k old new → Kept t' b' l' k' old new
kept_as t' b' l' k' e f g h d = record { len = d.len; same = λ y x m n. d.same y x m (λ p q u v. n (omega arith) (omega arith) (omega arith) (omega arith)) }

pub kept_then : {t b l k : ℕ} {old mid new : List ℤ} → Kept t b l k old mid → Kept t b l k mid new → Kept t b l k old new
kept_then d e = record { len = e.len ∙ d.len; same = λ y x m n. e.same y x m n ∙ d.same y x m n }

-- ---- row after row

-- of rows top to bottom, those before row y are there, and nothing outside them has changed
pub record Made (size : Size) (samples : List ℤ) (r c top bottom left right y : ℕ) (old new : List ℤ) : Type 0 where
  pub from : top ≤ y
  pub holds : Holds size samples r c top y left right new
  pub kept : Kept top bottom left right old new

-- ---- places of the samples

pub place-low : (size : Size) → Sized size → (y x : ℕ) {a : ℕ} → a ≡ cell (4 * size.width.0) y x → y < 16 * size.height.0 → x < 16 * size.width.0
    → (a < 256 * macroblocks size) × (256 * macroblocks size ≤ 55507200)
place-low size z y x e h k =
    let W = size.width.0 in
    let H = size.height.0 in
    (omega (arith, e, cell-low (4 * W) (4 * H) y x (omega arith) (omega arith)), omega (arith, few_macroblocks z))

-- ---- what a line settles

module _ (size : Size) (samples : List ℤ) (wide : 0 < size.width.0) (tall : 0 < size.height.0) (len : length samples ≡ 256 * macroblocks size) (r c : ℕ) where
  abbrev W : ℕ
  W = size.width.0

  abbrev H : ℕ
  H = size.height.0

  room : length samples ≡ 16 * (4 * W * (4 * H))
  room = len ∙ omega arith

  -- n fours of row y
  pub row_filled : (y n a i : ℕ) {old new : List ℤ} → n ≤ 16 → 4 * c + n < 4 * W → Edge (4 * H) (16 * r + y) → 16 * r + y < 16 * H → a ≡ (16 * r + y) * (16 * W) + 16 * c + 2 → i ≡ 72 * y + 2
      → Spread i 1 (4 * n) (fours_from samples 1 a) old new
      → record { holds : Holds size samples r c y (y + 1) 2 (4 * n + 2) new; kept : Kept y (y + 1) 2 (4 * n + 2) old new }
  unfolding unfiltered_at unfiltered
  row_filled y n a i {old} {new} few some edge low e p d = record {
    holds = record {
      there = λ z x f g h k u v.
          let j = x - 2 in
          let b = 4 * c + j / 4 in
          let same : z ≡ y = omega arith in
          ap (at new) (omega (arith, same)) ∙ d.own j (omega arith)
          ∙ ap (λ (b : ℕ). at (undo four_filter (get (line 1 b) samples)) (j % 4)) (omega (arith, e))
          ∙ sym (row_at (4 * W) (4 * H) samples room (16 * r + y) b (j % 4) (omega arith) edge (omega arith) (omega arith))
          ∙ ap₂ (λ (m b : ℕ). at (undo (filters (4 * W) (4 * H)) samples) (cell (4 * W) (16 * r + m) b)) (sym same) (omega arith);
    };
    kept = record { len = d.len; same = λ z x h o. d.others (72 * z + x) (λ k l q. o (omega (arith, q)) (omega (arith, q)) (omega (arith, q)) (omega (arith, q))) };
  }

  -- n fours of columns x and x + 1
  pub columns_filled : (x n a i : ℕ) {old new : List ℤ} → x ≤ 70 → 4 * r + n < 4 * H → First (4 * W) (16 * c + x) → a ≡ (16 * r + 2) * (16 * W) + 16 * c + x → i ≡ 144 + x
      → Columns i (4 * n) (fours_down samples (16 * W) a) old new
      → record { holds : Holds size samples r c 2 (4 * n + 2) x (x + 2) new; kept : Kept 2 (4 * n + 2) x (x + 2) old new }
  unfolding unfiltered_at unfiltered
  columns_filled x n a i {old} {new} few some first e f d = record {
    holds = record {
      there = λ y z g h k l u v.
          let j = y - 2 in
          let m = 4 * r + j / 4 in
          ap (at new) (omega arith) ∙ d.own (z - x) j (omega arith) (omega arith)
          ∙ ap₂ (λ (w b : ℕ). at (undo four_filter (get (line w b) samples)) (j % 4)) (omega arith) (omega (arith, e))
          ∙ sym (column-at (4 * W) (4 * H) samples room (16 * c + z) m (j % 4) (omega arith) (first_edge (4 * W) (16 * c + x) (16 * c + z) first (omega arith) (omega arith)) (omega arith) (omega arith))
          ∙ ap (λ (b : ℕ). at (undo (filters (4 * W) (4 * H)) samples) (cell (4 * W) b (16 * c + z))) (omega arith);
    };
    kept = record { len = d.len; same = λ y z h o. d.others (72 * y + z) (λ b k hb l q. o (omega (arith, q)) (omega (arith, q)) (omega (arith, q)) (omega (arith, q))) };
  }

  -- a corner in rows y and y + 1 and columns x and x + 1
  pub corner_filled : (y x a i : ℕ) (u v : List ℤ) {old new : List ℤ} → x ≤ 70 → 72 * y + x + 73 < length old → First (4 * H) (16 * r + y) → First (4 * W) (16 * c + x)
      → a ≡ (16 * r + y) * (16 * W) + 16 * c + x → i ≡ 72 * y + x
      → four u ≡ get (corner (16 * W) a) samples → four v ≡ undo four_filter (four u) → new ≡ put (corner 72 i) (four v) old
      → record { holds : Holds size samples r c y (y + 2) x (x + 2) new; kept : Kept y (y + 2) x (x + 2) old new }
  unfolding unfiltered
  corner_filled y x a i u v {old} {new} few room' fy fx e f read made stored = record {
    holds = record {
      there = λ z w g h k l m n.
          let j = 2 * (z - y) + (w - x) in
          let below : y + j / 2 ≡ z = omega arith in
          let beside : x + j % 2 ≡ w = omega arith in
          ap₂ (λ (o q : ℕ). at new (72 * o + q)) (sym below) (sym beside)
          ∙ own j (omega arith)
          ∙ ap₂ (λ (o b : ℕ). at (undo four_filter (get (corner o b) samples)) j) (omega arith) (omega (arith, e))
          ∙ sym (corner-at (4 * W) (4 * H) samples room (16 * r + y) (16 * c + x) j (omega arith) (omega arith) fy fx (omega arith))
          ∙ ap₂ (λ (o q : ℕ). at (undo (filters (4 * W) (4 * H)) samples) (cell (4 * W) o q)) (omega (arith, below)) (omega (arith, beside));
    };
    kept = record {
      len = ap length stored ∙ length-put _ _ old;
      same = λ z w h o.
          ap (λ l. at l (72 * z + w)) stored
          ∙ (put_keeps (λ (k : ℕ). k ≡ 72 * z + w) (corner 72 i) (four v) (
            λ q. away z w o 0 0 (omega arith) (omega arith) h (omega (arith, q)),
            (
              λ q. away z w o 0 1 (omega arith) (omega arith) h (omega (arith, q)),
              (λ q. away z w o 1 0 (omega arith) (omega arith) h (omega (arith, q)), (λ q. away z w o 1 1 (omega arith) (omega arith) h (omega (arith, q)), tt)),
            ),
          ) agree_refl).same (72 * z + w) refl;
    };
  }
    where
      own : (k : ℕ) → k < 4 → at new (72 * (y + k / 2) + (x + k % 2)) ≡ at (undo four_filter (get (corner (16 * W) a) samples)) k
      own k h =
          at-four (λ n. 72 * (y + n / 2) + (x + n % 2)) new (undo four_filter (get (corner (16 * W) a) samples)) {a = i} {b = i + 1} {c = i + 72} {d = i + 72 + 1} (omega arith) (omega arith) (omega arith) (omega arith)
          (ap (get (corner 72 i)) stored ∙ get-put (corner 72 i) (four v) old (corner-places 72 i (length old) (omega arith) (omega arith)) refl refl ∙ made ∙ ap (undo four_filter) read) k h

      away : (z w : ℕ) → (y ≤ z → z < y + 2 → x ≤ w → w < x + 2 → ⊥) → (m n : ℕ) → m < 2 → n < 2 → w < 72 → 72 * (y + m) + (x + n) ≡ 72 * z + w → ⊥
      away z w o m n hm hn h q = o (omega arith) (omega arith) (omega arith) (omega arith)

-- ---- a macroblock: which of its rows lie at an edge

module _ (m : Macroblock) where
  pub rows-first : m.first ≤ 2
  rows-first = grind (arith, m.top)

  pub rows_down : (3 ≤ m.down) × (m.down ≤ 4) × (4 * m.r + m.down < 4 * m.size.height.0)
  rows_down = (grind (arith, m.bottom, m.below), grind (arith, m.bottom, m.below), grind (arith, m.bottom, m.below))

  -- a row that is neither above the windows' end nor above row 16 is no row of the picture
  beyond : (y : ℕ) → ¬ (y < 4 * m.down + 2) → ¬ (y < 16) → y < 18 → 16 * m.r + y < 16 * m.size.height.0 → ⊥
  beyond y h k l n = grind (arith, h, k, m.bottom)

  -- the rows above the windows, those of the windows and those below them
  pub three_rows : {samples : List ℤ} (l k : ℕ) {v : List ℤ} → Holds m.size samples m.r m.c m.first 2 l k v → Holds m.size samples m.r m.c 2 (4 * m.down + 2) l k v → Holds m.size samples m.r m.c (4 * m.down + 2) 16 l k v → Holds m.size samples m.r m.c m.first 18 l k v
  three_rows l k a b d =
      record {
        there = λ y x f g o n u v.
            by_cases (dec_lt y 2) (λ z. a.there y x f z o n u v)
            (λ z. by_cases (dec_lt y (4 * m.down + 2)) (λ w. b.there y x (omega (arith, z)) w o n u v)
            (λ w. by_cases (dec_lt y 16) (λ q. d.there y x (omega (arith, w)) q o n u v) (λ q. absurd (beyond y w q g u))));
      }

  pub columns_joined : {samples : List ℤ} (x : ℕ) {v0 v1 v2 v3 : List ℤ} → x ≤ 70 → record { holds : Holds m.size samples m.r m.c m.first 2 x (x + 2) v1; kept : Kept m.first 2 x (x + 2) v0 v1 }
      → record { holds : Holds m.size samples m.r m.c 2 (4 * m.down + 2) x (x + 2) v2; kept : Kept 2 (4 * m.down + 2) x (x + 2) v1 v2 }
      → record { holds : Holds m.size samples m.r m.c (4 * m.down + 2) 16 x (x + 2) v3; kept : Kept (4 * m.down + 2) 16 x (x + 2) v2 v3 }
      → record { holds : Holds m.size samples m.r m.c m.first 18 x (x + 2) v3; kept : Kept m.first 18 x (x + 2) v0 v3 }
  columns_joined x few a b d =
      let n = rows_down in
      let f = rows-first in
      let above = holds_kept m.r m.c m.first 2 x (x + 2) 2 (4 * m.down + 2) x (x + 2) (omega arith) (λ y z g h k l u o p q. absurd (omega arith)) a.holds b.kept in record {
        holds = three_rows x (x + 2) (holds_kept m.r m.c m.first 2 x (x + 2) (4 * m.down + 2) 16 x (x + 2) (omega arith) (λ y z g h k l u o p q. absurd (omega (arith, n))) above d.kept)
            (holds_kept m.r m.c 2 (4 * m.down + 2) x (x + 2) (4 * m.down + 2) 16 x (x + 2) (omega arith) (λ y z g h k l u o p q. absurd (omega arith)) b.holds d.kept) d.holds;
        kept = kept_then (kept_as m.first 18 x (x + 2) (omega arith) (omega arith) (omega arith) (omega arith) a.kept) (kept_then (kept_as m.first 18 x (x + 2) (omega arith) (omega (arith, n)) (omega arith) (omega arith) b.kept)
            (kept_as m.first 18 x (x + 2) (omega (arith, n)) (omega arith) (omega arith) (omega arith) d.kept));
      }
