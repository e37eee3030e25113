-- Blocks and rows of the strip number by number: what is stored in one place is read there again, and all others stay.
use Prim.Native.Nat.{ℕ, zero, suc, ◌+◌, ◌-◌, ◌*◌, ◌/◌, ◌%◌, ◌≤◌, ◌<◌}
use mathlib.Core.Path.{◌≡◌, refl, sym, ◌∙◌, ap, ap₂}
use mathlib.Core.Logic.{by_cases}
use mathlib.Core.List.{List}
use native.Mathlib.Omega.{arith}
use native.Mathlib.Decide.{ℕ_discrete, dec_lt}
use lib.ListN.{length, set}
use lib.Seq.{get_or-set_same, get_or-set_other}
use lib.IntN.{ℤ, pos}
use Rattle.lifting.specs.Program.{at, put}
use Rattle.figures.specs.Block.{four}
use Rattle.transform.specs.Level.{strip as line}
use Rattle.transform.specs.Grids.{coefficients}
use Rattle.picture.proofs.Table.{at_table}
use Rattle.forward_kernel.specs.Placed.{Placed, block_in}
use Rattle.forward_kernel.proofs.Stores.{placed_none, placed_next, placed_after, four_placed, below-four}
use Rattle.forward_two_cores.specs.Blocks.{block_of}
use Rattle.forward_kernel.proofs.Stores.{same_block, at_block}
use Rattle.forward_two_edges.specs.Strip.{Kept}
use Rattle.forward_two_edges.proofs.Strips.{kept_as, kept_then}
use Rattle.forward_two_parked.specs.Parked.{place_in, Parked, Fetched, ZerosParked, RestParked}

-- ---- numbers of a block

same_number : (x y : ℤ) (f g : ℕ → ℤ) (j : ℕ) → x ≡ y → ((k : ℕ) → k + 1 ≡ j → f k ≡ g k) → coefficients x f j ≡ coefficients y g j
same_number x y f g zero e h = e
same_number x y f g (suc j) e h = h j (omega arith)

module _ (dc low high : List ℤ) where
  pub block_at : (t j : ℕ) → j < 16 → at (block_of dc low high t) j ≡ coefficients (at (block_in dc low (t / 16)) (t % 16)) (λ i. at high (15 * t + i)) j
  unfolding block_of
  block_at t j h = at_table 16 (coefficients (at (block_in dc low (t / 16)) (t % 16)) (λ i. at high (15 * t + i))) j h

  pub block-of : (m first k j : ℕ) (x : ℤ) → first ≡ 240 * m → k < 16 → j < 16 → x ≡ at (block_in dc low m) k → coefficients x (λ i. at high (first + 15 * k + i)) j ≡ at (block_of dc low high (16 * m + k)) j
  block-of m first k j x f h l e =
      same_number x _ _ _ j (e ∙ ap₂ (λ (a b : ℕ). at (block_in dc low a) b) (omega arith) (omega arith)) (λ i q. ap (at high) (omega arith)) ∙ sym (block_at (16 * m + k) j l)

-- ---- to the strip

kept_placed : (y l n : ℕ) (i : ℕ) {f : ℕ → ℤ} {old new : List ℤ} → i ≡ 72 * y + l → l + n ≤ 72 → Placed i n f old new → Kept y (y + 1) l (l + n) old new
kept_placed y l n i {f} {old} {new} e h p = record {
  len = p.len;
  same = λ z x k o. by_cases (dec_lt (72 * z + x) i) (λ m. p.below (72 * z + x) m)
      (λ m. by_cases (dec_lt (72 * z + x) (i + n)) (λ q. absurd (o (omega (arith, m, q)) (omega (arith, m, q)) (omega (arith, m, q)) (omega (arith, m, q)))) (λ q. p.above (72 * z + x) (omega (arith, q))));
}

pub block_fetched : (g : ℕ → ℤ) (x : ℕ) (old a b : List ℤ) {mid new : List ℤ} → x ≤ 68 → length old ≡ 1296 → ((j : ℕ) → j < 4 → at a j ≡ g j) → ((j : ℕ) → j < 4 → at b j ≡ g (j + 4))
    → mid ≡ put (line 1 x) (four a) old → new ≡ put (line 1 (72 + x)) (four b) mid
    → record { by_index : (j : ℕ) → j < 8 → at new (72 * (j / 4) + x + j % 4) ≡ g j; kept : Kept 0 2 x (x + 4) old new }
block_fetched g x old a b {mid} {new} h l fa fb ea eb =
    let p = four_placed x a old (omega arith) ea in
    let q = four_placed (72 + x) b mid (omega (arith, p.len)) eb in record {
      by_index = λ j k. by_cases (dec_lt j 4)
          (λ m. ap (at new) (omega (arith, m)) ∙ q.below (x + j) (omega (arith, m)) ∙ p.own j m ∙ fa j m)
          (λ m. ap (at new) (omega (arith, m)) ∙ q.own (j - 4) (omega (arith, m)) ∙ fb (j - 4) (omega (arith, m)) ∙ ap g (omega (arith, m)));
      kept = kept_then (kept_as 0 2 x (x + 4) (omega arith) (omega arith) (omega arith) (omega arith) (kept_placed 0 x 4 x (omega arith) (omega arith) p))
          (kept_as 0 2 x (x + 4) (omega arith) (omega arith) (omega arith) (omega arith) (kept_placed 1 x 4 (72 + x) (omega arith) (omega arith) q));
    }

-- one more block of a macroblock
pub blocks_fetched : (blocks : ℕ → List ℤ) (m b n : ℕ) {old new : List ℤ} → b < 4 → n < 4 → ((j : ℕ) → j < 8 → at new (72 * (j / 4) + (16 * b + 4 * n) + j % 4) ≡ at (blocks (16 * m + n)) j)
    → Kept 0 2 (16 * b + 4 * n) (16 * b + 4 * n + 4) old new → ((k j : ℕ) → k < n → j < 8 → at old (place_in 0 b k j) ≡ at (blocks (16 * m + k)) j)
    → (k j : ℕ) → k < n + 1 → j < 8 → at new (place_in 0 b k j) ≡ at (blocks (16 * m + k)) j
blocks_fetched blocks m b n {old} {new} lb ln own kept before k j h l = by_cases (ℕ_discrete k n)
    (λ e. ap (at new) (omega (arith, e)) ∙ own j l ∙ ap (λ (i : ℕ). at (blocks (16 * m + i)) j) (sym e))
    (λ o. ap (at new) (omega arith) ∙ kept.same (j / 4) (16 * b + 4 * k + j % 4) (omega (arith, o)) (λ p q r s. o (omega (arith, p, q, r, s))) ∙ ap (at old) (omega arith) ∙ before k j (omega (arith, o)) l)

-- one more macroblock
pub macroblocks_fetched : (blocks : ℕ → List ℤ) (m n : ℕ) {old new : List ℤ} → n < 4 → ((k j : ℕ) → k < 4 → j < 8 → at new (place_in 0 n k j) ≡ at (blocks (16 * (m + n) + k)) j)
    → Kept 0 2 (16 * n) (16 * n + 16) old new → Fetched m n blocks old → Fetched m (n + 1) blocks new
macroblocks_fetched blocks m n {old} {new} ln own kept before = record {
  own = λ b k j h l i. by_cases (ℕ_discrete b n)
      (λ e. ap (at new) (omega (arith, e)) ∙ own k j l i ∙ ap (λ (a : ℕ). at (blocks (16 * (m + a) + k)) j) (sym e))
      (λ o. ap (at new) (omega arith) ∙ kept.same (j / 4) (16 * b + 4 * k + j % 4) (omega (arith, o)) (λ p q r s. o (omega (arith, p, q, r, s))) ∙ ap (at old) (omega arith) ∙ before.own b k j (omega (arith, o)) l i);
}

-- ---- to the planes

pub zeros-parked : (m b : ℕ) (strip dc low : List ℤ) (x0 x1 x2 x3 : ℤ) → m < length dc → 15 * m + 14 < length low
    → x0 ≡ at strip (1152 + 16 * b) → x1 ≡ at strip (1152 + 16 * b + 4) → x2 ≡ at strip (1152 + 16 * b + 8) → x3 ≡ at strip (1152 + 16 * b + 12)
    → ZerosParked m b strip (block_in dc low) (block_in (set dc m x0) (set (set (set low (15 * m) x1) (15 * m + 1) x2) (15 * m + 2) x3))
unfolding block_in
zeros-parked m b strip dc low x0 x1 x2 x3 room more e0 e1 e2 e3 =
    let f : ℕ → ℤ = λ i. at strip (1152 + 16 * b + 4 * (i + 1)) in
    let dc' = set dc m x0 in
    let low' = set (set (set low (15 * m) x1) (15 * m + 1) x2) (15 * m + 2) x3 in
    let p = placed_next (15 * m) 2 f (15 * m + 2) refl (omega arith) e3 (placed_next (15 * m) 1 f (15 * m + 1) refl (omega arith) e2 (placed_next (15 * m) 0 f (15 * m) (omega arith) (omega arith) e1 (placed_none (15 * m) f low))) in
    record {
      own = λ k h. at_block dc' low' m k (omega arith)
          ∙ below-four (λ i. coefficients (at dc' m) (λ n. at low' (15 * m + n)) i ≡ at strip (1152 + 16 * b + 4 * i))
          (get_or-set_same dc m x0 (pos 0) room ∙ e0 ∙ ap (at strip) (omega arith)) (p.own 0 (omega arith)) (p.own 1 (omega arith)) (p.own 2 (omega arith)) k h;
      others = λ s o. same_block _ _ (get_or-set_other dc m s x0 (pos 0) o) (λ k h. by_cases (dec_lt s m) (λ l. p.below (15 * s + k) (omega arith)) (λ l. p.above (15 * s + k) (omega (arith, l, o))));
    }

pub block-parked : (i x : ℕ) (strip high a : List ℤ) {new : List ℤ} (x1 x2 x3 : ℤ) → i + 6 < length high → x1 ≡ at strip (1153 + x) → x2 ≡ at strip (1154 + x) → x3 ≡ at strip (1155 + x)
    → ((j : ℕ) → j < 4 → at a j ≡ at strip (1224 + x + j)) → new ≡ put (line 1 (i + 3)) (four a) (set (set (set high i x1) (i + 1) x2) (i + 2) x3)
    → Placed i 7 (λ j. at strip (72 * (16 + (j + 1) / 4) + x + (j + 1) % 4)) high new
block-parked i x strip high a x1 x2 x3 room e1 e2 e3 f e =
    let g : ℕ → ℤ = λ j. at strip (72 * (16 + (j + 1) / 4) + x + (j + 1) % 4) in
    let p = placed_next i 2 g (i + 2) refl (omega arith) (e3 ∙ ap (at strip) (omega arith)) (placed_next i 1 g (i + 1) refl (omega arith) (e2 ∙ ap (at strip) (omega arith)) (placed_next i 0 g i (omega arith) (omega arith) (e1 ∙ ap (at strip) (omega arith)) (placed_none i g high))) in
    placed_after i 3 3 4 7 g (at a) g (omega arith) (omega arith) refl (λ k h. refl) (λ k h. f k h ∙ ap (at strip) (omega arith)) p (four_placed (i + 3) a _ (omega (arith, p.len)) e)

-- one more macroblock
pub macroblocks-parked : (m n : ℕ) (dc low high dc' low' high' : List ℤ) {strip : List ℤ} {blocks : ℕ → List ℤ} → Parked m n strip blocks (block_of dc low high)
    → ZerosParked (m + n) n strip (block_in dc low) (block_in dc' low') → RestParked (240 * (m + n)) n 4 strip high high' → Parked m (n + 1) strip blocks (block_of dc' low' high')
unfolding block_of
macroblocks-parked m n dc low high dc' low' high' {strip} {blocks} p z q = record {
  own = λ t b j h e k l. by_cases (ℕ_discrete b n)
      (λ o. block_at dc' low' high' t j (omega arith) ∙ mine t j (omega (arith, e, o)) k l ∙ ap (λ (i : ℕ). at strip (place_in 16 i (t % 16) j)) (sym o))
      (λ o. ap (λ v. at v j) (elsewhere t (λ f. o (omega (arith, e, f)))) ∙ p.own t b j (omega (arith, o)) e k l);
  others = λ t o. elsewhere t (λ f. o (omega (arith, f), omega (arith, f))) ∙ p.others t (λ f. o (omega (arith, f), omega (arith, f)));
}
  where
    mine : (t j : ℕ) → t / 16 ≡ m + n → t % 16 < 4 → j < 8 → coefficients (at (block_in dc' low' (t / 16)) (t % 16)) (λ i. at high' (15 * t + i)) j ≡ at strip (place_in 16 n (t % 16) j)
    mine t zero e k l = ap (λ (s : ℕ). at (block_in dc' low' s) (t % 16)) e ∙ z.own (t % 16) k ∙ ap (at strip) (omega arith)
    mine t (suc j) e k l = ap (at high') (omega (arith, e)) ∙ q.own (t % 16) j k (omega arith) ∙ ap (at strip) (omega arith)

    elsewhere : (t : ℕ) → (t / 16 ≡ m + n → ⊥) → block_of dc' low' high' t ≡ block_of dc low high t
    elsewhere t o = same_block _ _ (ap (λ v. at v (t % 16)) (z.others (t / 16) o)) (λ k h. q.others (15 * t + k) (λ e f. o (omega (arith, e, f))))
