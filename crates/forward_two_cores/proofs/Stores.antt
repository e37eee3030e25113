-- Blocks stored and replaced one after another: each store adds to what is done and leaves the rest.
use Prim.Native.Nat.{ℕ, ◌+◌, ◌-◌, ◌*◌, ◌/◌, ◌%◌, ◌<◌, ◌≤◌}
use mathlib.Core.Path.{◌≡◌, refl, sym, ◌∙◌, ap, ap₂}
use mathlib.Core.Logic.{by_cases}
use mathlib.Core.List.{List}
use native.Mathlib.Omega.{arith}
use native.Mathlib.Decide.{ℕ_discrete, dec_lt}
use lib.Arith.{digits_div, digits_mod}
use lib.ListN.{length, set}
use lib.Seq.{get_or-set_same, get_or-set_other}
use lib.IntN.{ℤ, pos}
use Rattle.lifting.specs.Program.{at, get, undo}
use Rattle.figures.specs.Figures.{core}
use Rattle.transform.specs.Level.{square}
use Rattle.transform.specs.Grids.{block_at}
use Rattle.transform.proofs.Grid.{first_coefficient, later_coefficient}
use Rattle.grid.proofs.Rows.{row_inside}
use Rattle.forward_kernel.specs.Placed.{Placed, undone_at}
use Rattle.forward_kernel.proofs.Stores.{same_block, block-is, at_block, length_undone}
use Rattle.forward_two_cores.specs.Blocks.{zero_of, block_of, square_in, undone_in, InRows, Replaced}

-- ---- what is replaced after something else

pub replaced_none : {A : Type 0} {P : ℕ → Type 0} {f old : ℕ → A} → ((t : ℕ) → P t → ⊥) → Replaced P f old old
replaced_none none = record { own = λ t h. absurd (none t h); others = λ t h. refl }

module _ {A : Type 0} {f old new : ℕ → A} where
  pub replaced_as : {P : ℕ → Type 0} {g : ℕ → A} → ((t : ℕ) → P t → f t ≡ g t) → Replaced P f old new → Replaced P g old new
  replaced_as e r = record { own = λ t h. r.own t h ∙ e t h; others = r.others }

  -- the same blocks
  pub replaced_in : {P Q : ℕ → Type 0} → ((t : ℕ) → P t → Q t) → ((t : ℕ) → Q t → P t) → Replaced P f old new → Replaced Q f old new
  replaced_in there back r = record { own = λ t h. r.own t (back t h); others = λ t n. r.others t (λ h. n (there t h)) }

  -- those with a key below b, and then the others
  pub replaced_more : {P Q R : ℕ → Type 0} {mid : ℕ → A} (key : ℕ → ℕ) (b : ℕ)
      → ((t : ℕ) → R t → key t < b → P t) → ((t : ℕ) → R t → b ≤ key t → Q t) → ((t : ℕ) → P t → R t) → ((t : ℕ) → Q t → R t × (b ≤ key t))
      → Replaced P f old mid → Replaced Q f mid new → Replaced R f old new
  replaced_more key b first second below above p q = record {
    own = λ t h. by_cases (dec_lt (key t) b) (λ u. q.others t (λ z. absurd (omega (arith, u, (above t z).1))) ∙ p.own t (first t h u)) (λ u. q.own t (second t h (omega (arith, u))));
    others = λ t n. q.others t (λ z. n (above t z).0) ∙ p.others t (λ z. n (below t z));
  }

  -- in the rows a to b - 1, blocks after blocks
  pub along_more : {mid : ℕ → A} (a b : ℕ) (m n p : ℕ) → m ≤ n → n ≤ p → Replaced (InRows a b m n) f old mid → Replaced (InRows a b n p) f mid new → Replaced (InRows a b m p) f old new
  along_more a b m n p h k =
      replaced_more (λ t. t / 16) n (λ t r u. ((r.0.0, u), r.1, r.2)) (λ t r u. ((u, r.0.1), r.1, r.2)) (λ t r. ((r.0.0, omega (arith, r.0.1)), r.1, r.2)) (λ t r. (((omega (arith, r.0.0), r.0.1), r.1, r.2), r.0.0))

  -- rows after rows
  pub rows_more : {mid : ℕ → A} (a b c : ℕ) (m n : ℕ) → a ≤ b → b ≤ c → Replaced (InRows a b m n) f old mid → Replaced (InRows b c m n) f mid new → Replaced (InRows a c m n) f old new
  rows_more a b c m n h k =
      replaced_more (λ t. t % 16 / 4) b (λ t r u. (r.0, r.1, u)) (λ t r u. (r.0, u, r.2)) (λ t r. (r.0, r.1, omega (arith, r.2))) (λ t r. ((r.0, omega (arith, r.1), r.2), r.1))

-- ---- row k of the blocks of macroblock m

abbrev InRow : ℕ → ℕ → ℕ → Type 0
InRow m k = InRows k (k + 1) m (m + 1)

-- a block that is not in it is before its four blocks or after them
outside : {C : Type 0} (m k : ℕ) → k < 4 → (t : ℕ) → (InRow m k t → ⊥) → (t < 16 * m + 4 * k → C) → (16 * m + 4 * k + 4 ≤ t → C) → C
outside m k few t n before after = by_cases (dec_lt t (16 * m + 4 * k)) before
    (λ u. by_cases (dec_lt t (16 * m + 4 * k + 4)) (λ v. absurd (n ((omega (arith, u), omega (arith, u)), omega (arith, u), omega (arith, u)))) (λ v. after (omega (arith, v))))

-- ---- coefficients 0: the first of row 0 is the DC number, the others are low-pass numbers

module _ (dc low : List ℤ) (t : ℕ) where
  in_dc : t % 16 ≡ 0 → zero_of dc low t ≡ at dc (t / 16)
  in_dc e = at_block dc low (t / 16) (t % 16) (omega arith) ∙ sym (first_coefficient _ _ (t % 16) e)

  in_low : (t % 16 ≡ 0 → ⊥) → zero_of dc low t ≡ at low (15 * (t / 16) + (t % 16 - 1))
  in_low o = at_block dc low (t / 16) (t % 16) (omega arith) ∙ sym (later_coefficient _ (λ k. at low (15 * (t / 16) + k)) (t % 16) o)

low-kept : (m k : ℕ) → k < 4 → {i n : ℕ} {f : ℕ → ℤ} {low low' : List ℤ} → i ≡ 15 * m + (4 * k - 1) → i + n ≡ 15 * m + 4 * k + 3 → Placed i n f low low' → (t : ℕ) → (InRow m k t → ⊥) → (t % 16 ≡ 0 → ⊥)
    → at low' (15 * (t / 16) + (t % 16 - 1)) ≡ at low (15 * (t / 16) + (t % 16 - 1))
low-kept m k few begins ends p t n o = outside m k few t n (λ u. p.below _ (omega (arith, u, o))) (λ u. p.above _ (omega (arith, u, o)))

pub zeros-first : (m : ℕ) (z dc low : List ℤ) {x : ℤ} {low' : List ℤ} {from : ℕ} → m < length dc → from ≡ 15 * m → x ≡ at z 0 → Placed from 3 (λ j. at z (j + 1)) low low'
    → Replaced (InRow m 0) (λ t. at z (t % 4)) (zero_of dc low) (zero_of (set dc m x) low')
zeros-first m z dc low {x} {low'} room e is p = record {
  own = λ t h. by_cases (ℕ_discrete (t % 16) 0)
      (λ y. in_dc _ low' t y ∙ ap (at (set dc m x)) (omega (arith, h)) ∙ get_or-set_same dc m x (pos 0) room ∙ is ∙ ap (at z) (omega (arith, y)))
      (λ o. in_low _ low' t o ∙ ap (at low') (omega (arith, h)) ∙ p.own (t % 16 - 1) (omega (arith, o, h)) ∙ ap (at z) (omega (arith, o, h)));
  others = λ t n. by_cases (ℕ_discrete (t % 16) 0)
      (λ y. in_dc _ low' t y ∙ get_or-set_other dc m (t / 16) x (pos 0) (λ l. n ((omega (arith, l), omega (arith, l)), omega (arith, y), omega (arith, y))) ∙ sym (in_dc dc low t y))
      (λ o. in_low _ low' t o ∙ low-kept m 0 (omega arith) (omega arith) (omega arith) p t n o ∙ sym (in_low dc low t o));
}

pub zeros_next : (m k : ℕ) (z dc low : List ℤ) {low' : List ℤ} {from : ℕ} → from ≡ 15 * m → 0 < k → k < 4 → Placed (from + (4 * k - 1)) 4 (at z) low low'
    → Replaced (InRow m k) (λ t. at z (t % 4)) (zero_of dc low) (zero_of dc low')
zeros_next m k z dc low {low'} e a b p = record {
  own = λ t h. in_low dc low' t (λ y. absurd (omega (arith, h, y))) ∙ ap (at low') (omega (arith, h)) ∙ p.own (t % 4) (omega arith);
  others = λ t n. by_cases (ℕ_discrete (t % 16) 0)
      (λ y. in_dc dc low' t y ∙ sym (in_dc dc low t y))
      (λ o. in_low dc low' t o ∙ low-kept m k b (omega arith) (omega arith) p t n o ∙ sym (in_low dc low t o));
}

-- ---- four blocks side by side: their coefficients 0 among DC and low-pass, the others in their part of the high-pass plane

-- row k of macroblock m from four squares of a grid of w columns, of which the first begins at place j
module _ (w j : ℕ) (grid : List ℤ) (m k : ℕ) where
  pub blocks_replaced : (z dc low dc' low' : List ℤ) {high high' : List ℤ} {from : ℕ} → k < 4 → from ≡ 240 * m + 60 * k → ((l : ℕ) → l < 4 → at z l ≡ at (undone_at w (j + 4 * l) grid) 0)
      → Placed from 60 (λ n. at (undone_at w (j + 4 * (n / 15)) grid) (n % 15 + 1)) high high' → Replaced (InRow m k) (λ t. at z (t % 4)) (zero_of dc low) (zero_of dc' low')
      → Replaced (InRow m k) (λ t. undone_at w (j + 4 * (t % 4)) grid) (block_of dc low high) (block_of dc' low' high')
  unfolding block_of
  blocks_replaced z dc low dc' low' {high' = high'} b e zeros p r = record {
    own = λ t h. block-is _ _ (length_undone w (j + 4 * (t % 4)) grid) (r.own t h ∙ zeros (t % 4) (omega arith))
        (λ i l. ap (at high') (omega (arith, h)) ∙ p.own (15 * (t % 4) + i) (omega arith) ∙ ap₂ (λ (a b : ℕ). at (undone_at w (j + 4 * a) grid) b) (omega arith) (omega arith));
    others = λ t n. same_block _ _ (r.others t n) (λ i l. outside m k b t n (λ u. p.below _ (omega (arith, u))) (λ u. p.above _ (omega (arith, u))));
  }

  -- as blocks of a macroblock whose first number stands at place i
  pub side_by_side : (i : ℕ) → j ≡ i + k * (4 * w) → (t : ℕ) → InRow m k t → undone_at w (j + 4 * (t % 4)) grid ≡ undone_in w i grid (t % 16)
  side_by_side i begins t h = ap (λ (a : ℕ). undone_at w a grid) place ∙ ap₂ (λ (a b : ℕ). undone_at w (i + 4 * a * w + 4 * b) grid) (omega (arith, h)) (omega arith)
    where
      place : j + 4 * (t % 4) ≡ i + 4 * k * w + 4 * (t % 4)
      place = omega arith

-- ---- a macroblock's squares in the samples: macroblock c of row r, which begins at place i and with macroblock m

module _ {W : ℕ} (wide : 0 < W) (r c : ℕ) (beside : c < W) {i m : ℕ} (begins : i ≡ r * (256 * W)) (first : m ≡ r * W) where
  pub sample_square : (samples : List ℤ) (t : ℕ) → t / 16 ≡ m + c → undone_in (16 * W) (i + 16 * c) samples (t % 16) ≡ undo core (square_in W samples t)
  unfolding square_in undone_at
  sample_square samples t e =
      let k = t % 16 in
      let number : t / 16 ≡ r * W + c = omega arith in
      let row : t / 16 / W ≡ r = rw number (digits_div r beside) in
      let column : t / 16 % W ≡ c = rw number (digits_mod r beside) in
      let place : block_at W t ≡ (4 * r + k / 4) * (4 * W) + (4 * c + k % 4) = ap₂ (λ (i j : ℕ). (4 * i + k / 4) * (4 * W) + (4 * j + k % 4)) row column in
      let low : 4 * c + k % 4 < 4 * W = omega arith in
      rw (place, digits_div (4 * r + k / 4) low, digits_mod (4 * r + k / 4) low) (ap₂ (λ (w i : ℕ). undo core (get (square w i) samples)) (omega arith) (omega arith))

-- row y of the blocks is row y % 4 of the blocks in row y / 4 of the macroblocks
pub row_begins : (y W : ℕ) → y * (64 * W) ≡ y / 4 * (256 * W) + y % 4 * (4 * (16 * W))
row_begins y W = ap (λ (i : ℕ). i * (64 * W)) split ∙ apart (y / 4) (y % 4)
  where
    split : y ≡ 4 * (y / 4) + y % 4
    split = omega arith

    apart : (r k : ℕ) → (4 * r + k) * (64 * W) ≡ r * (256 * W) + k * (4 * (16 * W))
    apart r k = omega arith

pub row_ends : (y W H : ℕ) → y < 4 * H → (y * (64 * W) + 64 * W ≤ 256 * (W * H)) × (y / 4 * W + W ≤ W * H)
row_ends y W H h = (omega (arith, row_inside y (4 * H) (64 * W) h), omega (arith, row_inside (y / 4) H W (omega arith)))
