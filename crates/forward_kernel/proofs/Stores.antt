-- Numbers stored one after another: each store adds to what is placed and leaves the rest.
use Prim.Native.Nat.{ℕ, zero, suc, ◌+◌, ◌-◌, ◌*◌, ◌/◌, ◌%◌, ◌<◌, ◌≤◌}
use mathlib.Core.Path.{◌≡◌, refl, sym, ◌∙◌, ap, subst}
use mathlib.Core.Logic.{by_cases}
use mathlib.Core.List.{List, [], ◌∷◌}
use native.Mathlib.Omega.{arith}
use native.Mathlib.Decide.{ℕ_discrete, dec_lt}
use native.Mathlib.Numerals.{add-one}
use lib.ListN.{length, get_or, set, length-set}
use lib.Seq.{get_or-set_same, get_or-set_other}
use lib.IntN.{ℤ, pos}
use lib.Signed.{mag}
use Rattle.lifting.specs.Program.{at, get, put, undo, undo_by}
use Rattle.lifting.proofs.Bits.{back}
use Rattle.figures.specs.Block.{four, flat}
use Rattle.figures.specs.Figures.{core}
use Rattle.figures.proofs.Parts.{kept}
use Rattle.transform.specs.Level.{strip, square}
use Rattle.picture.specs.Table.{table}
use Rattle.transform.specs.Grids.{coefficients}
use Rattle.picture.proofs.Table.{at_table, table_is, table_same}
use Rattle.forward_kernel.specs.Placed.{Placed, InLane, Undone, block_in, undone_at}

-- two blocks whose numbers are the same
pub same_block : {x y : ℤ} (f g : ℕ → ℤ) → x ≡ y → ((k : ℕ) → k < 15 → f k ≡ g k) → table 16 (coefficients x f) ≡ table 16 (coefficients y g)
same_block {x} {y} f g e h = table_same 16 (coefficients x f) (coefficients y g) entry
  where
    entry : (k : ℕ) → k < 16 → coefficients x f k ≡ coefficients y g k
    entry zero l = e
    entry (suc k) l = h k (omega arith)

pub block-is : {x : ℤ} (f : ℕ → ℤ) (xs : List ℤ) → length xs ≡ 16 → x ≡ at xs 0 → ((k : ℕ) → k < 15 → f k ≡ at xs (k + 1)) → table 16 (coefficients x f) ≡ xs
block-is {x} f xs n e h = table_is 16 (coefficients x f) xs n entry
  where
    entry : (k : ℕ) → k < 16 → coefficients x f k ≡ at xs k
    entry zero l = e
    entry (suc k) l = h k (omega arith) ∙ ap (at xs) (add-one k)

-- number k of block t in two lists
pub at_block : (zeros rest : List ℤ) (t k : ℕ) → k < 16 → at (block_in zeros rest t) k ≡ coefficients (at zeros t) (λ i. at rest (15 * t + i)) k
unfolding block_in
at_block zeros rest t k h = at_table 16 (coefficients (at zeros t) (λ i. at rest (15 * t + i))) k h

pub length_undone : (w i : ℕ) (grid : List ℤ) → length (undone_at w i grid) ≡ 16
unfolding undone_at undo_by core get
length_undone w i grid = refl

pub placed_none : (i : ℕ) (f : ℕ → ℤ) (v : List ℤ) → Placed i 0 f v v
placed_none i f v = record { len = refl; own = λ k h. absurd (omega arith); below = λ j h. refl; above = λ j h. refl }

pub placed_next : (i n : ℕ) (f : ℕ → ℤ) {old mid : List ℤ} (j : ℕ) {x : ℤ} → j ≡ i + n → i + n < length old → x ≡ f n → Placed i n f old mid → Placed i (n + 1) f old (set mid j x)
placed_next i n f {old} {mid} j {x} e room q p = record {
  len = length-set mid j x ∙ p.len;
  own = λ k h. by_cases (ℕ_discrete k n)
      (λ y. ap (at (set mid j x)) (omega (arith, y)) ∙ get_or-set_same mid j x (pos 0) (omega (arith, p.len)) ∙ q ∙ ap f (sym y))
      (λ o. get_or-set_other mid j (i + k) x (pos 0) (λ y. o (omega (arith, y))) ∙ p.own k (omega (arith, o)));
  below = λ k h. get_or-set_other mid j k x (pos 0) (λ y. absurd (omega (arith, y))) ∙ p.below k h;
  above = λ k h. get_or-set_other mid j k x (pos 0) (λ y. absurd (omega (arith, y))) ∙ p.above k (omega arith);
}

pub placed_up_to : {i : ℕ} (n m : ℕ) {f : ℕ → ℤ} {old new : List ℤ} → n ≡ m → Placed i n f old new → Placed i m f old new
placed_up_to {i} n m {f} {old} {new} e p = subst (λ (k : ℕ). Placed i k f old new) e p

-- four numbers in a line
pub placed_four : (i : ℕ) (xs old : List ℤ) → i + 3 < length old → Placed i 4 (at xs) old (put (strip 1 i) (four xs) old)
unfolding put
placed_four i xs old room =
    placed_next i 3 (at xs) (i + 1 + 1 + 1) (omega arith) (omega arith) refl
    (placed_next i 2 (at xs) (i + 1 + 1) (omega arith) (omega arith) refl (placed_next i 1 (at xs) (i + 1) refl (omega arith) refl (placed_next i 0 (at xs) i (omega arith) (omega arith) refl (placed_none i (at xs) old))))

-- a list that is known to be another with four numbers stored
pub four_placed : (i : ℕ) (xs old : List ℤ) {new : List ℤ} → i + 3 < length old → new ≡ put (strip 1 i) (four xs) old → Placed i 4 (at xs) old new
four_placed i xs old room e = rw e (placed_four i xs old room)

-- numbers after numbers, some of the first ones written over
pub placed_after : (i n j m t : ℕ) (f g h : ℕ → ℤ) {old mid new : List ℤ} → j ≤ n → n ≤ j + m → t ≡ j + m → ((k : ℕ) → k < j → f k ≡ h k) → ((k : ℕ) → k < m → g k ≡ h (j + k))
    → Placed i n f old mid → Placed (i + j) m g mid new → Placed i t h old new
placed_after i n j m t f g h {old} {mid} {new} a b e u v p q = record {
  len = q.len ∙ p.len;
  own = λ k l. by_cases (dec_lt k j) (λ y. q.below (i + k) (omega (arith, y)) ∙ p.own k (omega (arith, y)) ∙ u k y)
      (λ o. ap (at new) (omega (arith, o)) ∙ q.own (k - j) (omega (arith, o)) ∙ v (k - j) (omega (arith, o)) ∙ ap h (omega (arith, o)));
  below = λ k l. q.below k (omega arith) ∙ p.below k l;
  above = λ k l. q.above k (omega arith) ∙ p.above k (omega arith);
}

-- ---- four numbers, one by one

pub below-four : (P : ℕ → Type 0) → P 0 → P 1 → P 2 → P 3 → (k : ℕ) → k < 4 → P k
below-four P a b c d zero h = a
below-four P a b c d (suc zero) h = b
below-four P a b c d (suc (suc zero)) h = c
below-four P a b c d (suc (suc (suc zero))) h = d
below-four P a b c d (suc (suc (suc (suc k)))) h = absurd (omega (arith, h))

-- what four reads in a line say of each number
pub four-at : (i : ℕ) (x v : List ℤ) → four x ≡ get (strip 1 i) v → (k : ℕ) → k < 4 → at x k ≡ at v (i + k)
unfolding get
four-at i x v e =
    below-four (λ k. at x k ≡ at v (i + k)) (ap (λ l. at l 0) e ∙ ap (at v) (omega arith)) (ap (λ l. at l 1) e) (ap (λ l. at l 2) e ∙ ap (at v) (omega arith)) (ap (λ l. at l 3) e ∙ ap (at v) (omega arith))

-- ---- a lane

-- from its lane to the plane: four fours, of which the second begins with the last number of the first
pub lane_moved : (l i : ℕ) (out rest : List ℤ) (a b c d : List ℤ) {u v w z : List ℤ} → i + 14 < length rest
    → four a ≡ get (strip 1 (4 * l)) out → four b ≡ get (strip 1 (16 + 4 * l)) out → four c ≡ get (strip 1 (32 + 4 * l)) out → four d ≡ get (strip 1 (48 + 4 * l)) out
    → u ≡ put (strip 1 i) (four a) rest → v ≡ put (strip 1 (i + 3)) (four b) u → w ≡ put (strip 1 (i + 7)) (four c) v → z ≡ put (strip 1 (i + 11)) (four d) w
    → (block : List ℤ) → InLane l block out → Placed i 15 (λ k. at block (k + 1)) rest z
lane_moved l i out rest a b c d {u} {v} {w} {z} room ra rb rc rd sa sb sc sd block h =
    let f : ℕ → ℤ = λ k. at block (k + 1) in
    let p = four_placed i a rest (omega arith) sa in
    let q = placed_after i 4 3 4 7 (at a) (at b) f (omega arith) (omega arith) refl (λ k o. four-at _ a out ra k (omega arith) ∙ h.first k (omega arith))
    (λ k o. four-at _ b out rb k o ∙ h.second k o ∙ ap (at block) (omega arith)) p (four_placed (i + 3) b u (omega (arith, p.len)) sb) in
    let r = placed_after i 7 7 4 11 f (at c) f (omega arith) (omega arith) refl (λ k o. refl)
    (λ k o. four-at _ c out rc k o ∙ h.third k o ∙ ap (at block) (omega arith)) q (four_placed (i + 7) c v (omega (arith, q.len)) sc) in
    placed_after i 11 11 4 15 f (at d) f (omega arith) (omega arith) refl (λ k o. refl)
    (λ k o. four-at _ d out rd k o ∙ h.fourth k o ∙ ap (at block) (omega arith)) r (four_placed (i + 11) d w (omega (arith, r.len)) sd)

-- to its lane
pub record Laned (l : ℕ) (block old new : List ℤ) : Type 0 where
  pub holds : InLane l block new
  pub others : (i : ℕ) → (i % 16 / 4 ≡ l → ⊥) → at new i ≡ at old i

pub lane_stored : (l : ℕ) (block out : List ℤ) (a b c d : List ℤ) {u v w z : List ℤ} → l < 4 → length out ≡ 64
    → ((k : ℕ) → k < 4 → at a k ≡ at block (k + 1)) → ((k : ℕ) → k < 4 → at b k ≡ at block (k + 4)) → ((k : ℕ) → k < 4 → at c k ≡ at block (k + 8)) → ((k : ℕ) → k < 4 → at d k ≡ at block (k + 12))
    → u ≡ put (strip 1 (4 * l)) (four a) out → v ≡ put (strip 1 (16 + 4 * l)) (four b) u → w ≡ put (strip 1 (32 + 4 * l)) (four c) v → z ≡ put (strip 1 (48 + 4 * l)) (four d) w
    → Laned l block out z
lane_stored l block out a b c d {u} {v} {w} {z} low room fa fb fc fd sa sb sc sd =
    let p = four_placed (4 * l) a out (omega arith) sa in
    let q = four_placed (16 + 4 * l) b u (omega (arith, p.len)) sb in
    let r = four_placed (32 + 4 * l) c v (omega (arith, p.len, q.len)) sc in
    let s = four_placed (48 + 4 * l) d w (omega (arith, p.len, q.len, r.len)) sd in
    record {
      holds = record {
        first = λ k h. s.below (4 * l + k) (omega arith) ∙ r.below (4 * l + k) (omega arith) ∙ q.below (4 * l + k) (omega arith) ∙ p.own k h ∙ fa k h;
        second = λ k h. s.below (16 + 4 * l + k) (omega arith) ∙ r.below (16 + 4 * l + k) (omega arith) ∙ q.own k h ∙ fb k h;
        third = λ k h. s.below (32 + 4 * l + k) (omega arith) ∙ r.own k h ∙ fc k h;
        fourth = λ k h. s.own k h ∙ fd k h;
      };
      others = λ i n. elsewhere s i (λ e f. n (omega (arith, e, f))) ∙ elsewhere r i (λ e f. n (omega (arith, e, f))) ∙ elsewhere q i (λ e f. n (omega (arith, e, f))) ∙ elsewhere p i (λ e f. n (omega (arith, e, f)));
    }
  where
    elsewhere : {i n : ℕ} {f : ℕ → ℤ} {old new : List ℤ} → Placed i n f old new → (j : ℕ) → (i ≤ j → j < i + n → ⊥) → at new j ≡ at old j
    elsewhere {i} {n} p j o = by_cases (dec_lt j i) (λ h. p.below j h) (λ h. by_cases (dec_lt j (i + n)) (λ g. absurd (o (omega (arith, h)) g)) (λ g. p.above j (omega (arith, g))))

-- a block's four rows, the first from its second number on and with the second row's first number
module _ (b : List (List ℤ)) where
  abbrev row_of : ℕ → List ℤ
  row_of k = get_or b k []

  pub head-row : mag (at (row_of 0) 1) < 2147483648 → mag (at (row_of 0) 2) < 2147483648 → mag (at (row_of 0) 3) < 2147483648 → mag (at (row_of 1) 0) < 2147483648
      → (k : ℕ) → k < 4 → at (kept (at (row_of 0) 1) ∷ kept (at (row_of 0) 2) ∷ kept (at (row_of 0) 3) ∷ kept (at (row_of 1) 0) ∷ []) k ≡ at (flat b) (k + 1)
  unfolding flat
  head-row e f g h = below-four (λ k. at (kept (at (row_of 0) 1) ∷ kept (at (row_of 0) 2) ∷ kept (at (row_of 0) 3) ∷ kept (at (row_of 1) 0) ∷ []) k ≡ at (flat b) (k + 1)) (back e) (back f) (back g) (back h)

  pub second-row : (k : ℕ) → k < 4 → at (row_of 1) k ≡ at (flat b) (k + 4)
  unfolding flat
  second-row = below-four (λ k. at (row_of 1) k ≡ at (flat b) (k + 4)) refl refl refl refl

  pub third-row : (k : ℕ) → k < 4 → at (row_of 2) k ≡ at (flat b) (k + 8)
  unfolding flat
  third-row = below-four (λ k. at (row_of 2) k ≡ at (flat b) (k + 8)) refl refl refl refl

  pub fourth-row : (k : ℕ) → k < 4 → at (row_of 3) k ≡ at (flat b) (k + 12)
  unfolding flat
  fourth-row = below-four (λ k. at (row_of 3) k ≡ at (flat b) (k + 12)) refl refl refl refl

  pub zero_stored : (l : ℕ) (zeros : List ℤ) → l < length zeros → mag (at (row_of 0) 0) < 2147483648 → Placed l 1 (at (flat b)) zeros (set zeros l (kept (at (row_of 0) 0)))
  unfolding flat
  zero_stored l zeros room h = placed_next l 0 (at (flat b)) l (omega arith) (omega arith) (back h) (placed_none l (at (flat b)) zeros)

-- ---- lane after lane

-- a lane stays where no number of it is stored
lane-kept : (l : ℕ) {block old new : List ℤ} → l < 4 → ((i : ℕ) → i % 16 / 4 ≡ l → at new i ≡ at old i) → InLane l block old → InLane l block new
lane-kept l low e h = record {
  first = λ k m. e (4 * l + k) (omega arith) ∙ h.first k m;
  second = λ k m. e (16 + 4 * l + k) (omega arith) ∙ h.second k m;
  third = λ k m. e (32 + 4 * l + k) (omega arith) ∙ h.third k m;
  fourth = λ k m. e (48 + 4 * l + k) (omega arith) ∙ h.fourth k m;
}

pub lanes_next : (block : ℕ → List ℤ) (n : ℕ) (x : List ℤ) {zeros out zeros' out' : List ℤ} → n < 4 → x ≡ undo core (block n)
    → ((l : ℕ) → l < n → Undone l (block l) zeros out) → Placed n 1 (at x) zeros zeros' → InLane n x out' → ((i : ℕ) → (i % 16 / 4 ≡ n → ⊥) → at out' i ≡ at out i)
    → (l : ℕ) → l < n + 1 → Undone l (block l) zeros' out'
lanes_next block n x {zeros} {out} {zeros'} {out'} low e h z own others l m = by_cases (ℕ_discrete l n) here there
  where
    here : l ≡ n → Undone l (block l) zeros' out'
    here q = rw q (record { zero = ap (at zeros') (omega arith) ∙ z.own 0 (omega arith) ∙ ap (λ v. at v 0) e; rest = rw e at own })

    there : (l ≡ n → ⊥) → Undone l (block l) zeros' out'
    there o = let u = h l (omega (arith, o)) in record { zero = z.below l (omega (arith, o)) ∙ u.zero; rest = lane-kept l (omega (arith, o)) (λ i y. others i (λ w. o (sym y ∙ w))) u.rest }

-- four blocks moved one after another
pub blocks_placed : (block : ℕ → List ℤ) (i : ℕ) {v w x y z : List ℤ} → Placed i 15 (λ k. at (block 0) (k + 1)) v w → Placed (i + 15) 15 (λ k. at (block 1) (k + 1)) w x
    → Placed (i + 30) 15 (λ k. at (block 2) (k + 1)) x y → Placed (i + 45) 15 (λ k. at (block 3) (k + 1)) y z → Placed i 60 (λ k. at (block (k / 15)) (k % 15 + 1)) v z
blocks_placed block i a b c d =
    let f : ℕ → ℤ = λ k. at (block (k / 15)) (k % 15 + 1) in
    let e = placed_after i 15 15 15 30 (λ k. at (block 0) (k + 1)) (λ k. at (block 1) (k + 1)) f (omega arith) (omega arith) refl (λ k h. number 0 k k h (omega arith) (omega arith)) (λ k h. number 1 k (15 + k) h (omega arith) (omega arith)) a b in
    let g = placed_after i 30 30 15 45 f (λ k. at (block 2) (k + 1)) f (omega arith) (omega arith) refl (λ k h. refl) (λ k h. number 2 k (30 + k) h (omega arith) (omega arith)) e c in
    placed_after i 45 45 15 60 f (λ k. at (block 3) (k + 1)) f (omega arith) (omega arith) refl (λ k h. refl) (λ k h. number 3 k (45 + k) h (omega arith) (omega arith)) g d
  where
    number : (n k j : ℕ) → k < 15 → n ≡ j / 15 → k + 1 ≡ j % 15 + 1 → at (block n) (k + 1) ≡ at (block (j / 15)) (j % 15 + 1)
    number n k j h e f = rw (e, f)

-- ---- the four blocks of a grid

module _ (grid : List ℤ) (w i : ℕ) (lane : ℕ → List ℤ) (zeros out : List ℤ) (held : (l : ℕ) → l < 4 → lane l ≡ get (square w (i + 4 * l)) grid)
    (undone : (l : ℕ) → l < 4 → Undone l (lane l) zeros out) where
  pub zeros_of : (l : ℕ) → l < 4 → at zeros l ≡ at (undone_at w (i + 4 * l) grid) 0
  unfolding undone_at
  zeros_of l h = (undone l h).zero ∙ ap (λ b. at (undo core b) 0) (held l h)

  pub lanes_of : (l : ℕ) → l < 4 → InLane l (undone_at w (i + 4 * l) grid) out
  unfolding undone_at
  lanes_of l h = subst (λ b. InLane l (undo core b) out) (held l h) (undone l h).rest
