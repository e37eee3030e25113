-- A block stored number by number, and blocks replaced one after another or four at a time: each adds to what is done and leaves the rest.
use Prim.Native.Nat.{ℕ, min, ◌+◌, ◌-◌, ◌*◌, ◌/◌, ◌%◌, ◌<◌, ◌≤◌}
use mathlib.Core.Path.{◌≡◌, refl, ◌∙◌, ap, ap₂}
use mathlib.Core.Logic.{by_cases}
use mathlib.Core.List.{List}
use native.Mathlib.Omega.{arith}
use native.Mathlib.Decide.{dec_lt}
use borrow.Rule.Slice.PartMut.{put_mid}
use Rattle.std.proofs.Common.{rules}
use Rattle.std.proofs.lemmas.List.{places}
use lib.ListN.{length}
use lib.IntN.{ℤ}
use Rattle.lifting.specs.Program.{at, get, undo}
use Rattle.figures.specs.Figures.{core}
use Rattle.transform.specs.Level.{square}
use Rattle.picture.proofs.Table.{length-table}
use Rattle.forward_kernel.specs.Placed.{Placed, undone_at, block_in}
use Rattle.forward_kernel.proofs.Stores.{same_block, block-is, length_undone}
use Rattle.forward_one_cores.specs.Blocks.{Replaced}

pub length-block : (dc low : List ℤ) (t : ℕ) → length (block_in dc low t) ≡ 16
unfolding block_in
length-block dc low t = length-table 16 _

-- n numbers written over a part of a list
pub part_placed : (old part : List ℤ) (i n k : ℕ) (f : ℕ → ℤ) → i + n ≤ length old → k ≡ n → length part ≡ n → ((j : ℕ) → j < n → at part j ≡ f j) → Placed i n f old (put_mid i k old part)
part_placed old part i n k f room e long own = record {
  len = rw e (search (rules, places));
  own = λ j h. let inside : j < length part = omega arith in grind (arith, places) ∙ own j h;
  below = λ j h. grind (arith, places);
  above = λ j h. grind (arith, places);
}

-- the first n blocks of two lists become blocks of two others, from t on
pub blocks_moved : (zeros rest : List ℤ) (t n : ℕ) {dc low dc' low' : List ℤ} → Placed t n (at zeros) dc dc' → Placed (15 * t) (15 * n) (at rest) low low'
    → Replaced t n (λ s. block_in zeros rest (s - t)) (block_in dc low) (block_in dc' low')
unfolding block_in
blocks_moved zeros rest t n {dc' = dc'} {low'} p q = record {
  own = λ s h k.
      same_block _ _ (ap (at dc') (omega arith) ∙ p.own (s - t) (omega arith)) (λ j m. ap (at low') (omega arith) ∙ q.own (15 * (s - t) + j) (omega arith));
  below = λ s h. same_block _ _ (p.below s h) (λ j m. q.below (15 * s + j) (omega arith));
  above = λ s h. same_block _ _ (p.above s h) (λ j m. q.above (15 * s + j) (omega arith));
}

-- ---- blocks after blocks

pub replaced_none : (t : ℕ) (f old : ℕ → List ℤ) → Replaced t 0 f old old
replaced_none t f old = record { own = λ s h k. absurd (omega arith); below = λ s h. refl; above = λ s h. refl }

pub replaced_as : {t n : ℕ} {f old new : ℕ → List ℤ} (u m : ℕ) (g : ℕ → List ℤ) → t ≡ u → n ≡ m → ((s : ℕ) → t ≤ s → s < t + n → f s ≡ g s) → Replaced t n f old new → Replaced u m g old new
replaced_as u m g a b e r =
    record {
      own = λ s h k. r.own s (omega (arith, h)) (omega (arith, k)) ∙ e s (omega (arith, h)) (omega (arith, k));
      below = λ s h. r.below s (omega (arith, h));
      above = λ s h. r.above s (omega (arith, h));
    }

pub replaced_more : {t n m : ℕ} {f old mid new : ℕ → List ℤ} → Replaced t n f old mid → Replaced (t + n) m f mid new → Replaced t (n + m) f old new
replaced_more {t} {n} {m} p q = record {
  own = λ s h k. by_cases (dec_lt s (t + n)) (λ l. q.below s l ∙ p.own s h l) (λ l. q.own s (omega (arith, l)) (omega arith));
  below = λ s h. q.below s (omega arith) ∙ p.below s h;
  above = λ s h. q.above s (omega arith) ∙ p.above s (omega arith);
}

-- the same where each is made of what it was: nothing before touched it
pub replaced_in_place : (g : List ℤ → List ℤ) {t n m : ℕ} {old mid new : ℕ → List ℤ} → Replaced t n (λ s. g (old s)) old mid → Replaced (t + n) m (λ s. g (mid s)) mid new
    → Replaced t (n + m) (λ s. g (old s)) old new
replaced_in_place g {t} {n} {m} {old} p q = replaced_more p (replaced_as (t + n) m (λ s. g (old s)) refl refl (λ s h k. ap g (p.above s h)) q)

-- up to four more of them, while there are some
pub replaced_next : (g : List ℤ → List ℤ) {t n all : ℕ} {old mid new : ℕ → List ℤ} → t < all → n ≡ min (all - t) 4 → Replaced 0 (min t all) (λ s. g (old s)) old mid
    → Replaced t n (λ s. g (mid s)) mid new → Replaced 0 (min (t + 4) all) (λ s. g (old s)) old new
replaced_next g {t} {n} {all} inside few p q =
    replaced_as 0 (min (t + 4) all) _ refl (omega arith) (λ s h k. refl) (replaced_in_place g p (replaced_as (0 + min t all) n _ (omega arith) refl (λ s h k. refl) q))

-- ---- four blocks undone together

-- block l of what comes out, its coefficients 0 and 1 to 15 in two lists
pub lane_undone : (held zeros old rest x : List ℤ) (l : ℕ) → l < 4 → ((l : ℕ) → l < 4 → at zeros l ≡ at (undone_at 16 (0 + 4 * l) held) 0)
    → Placed 0 60 (λ k. at (undone_at 16 (0 + 4 * (k / 15)) held) (k % 15 + 1)) old rest → get (square 16 (4 * l)) held ≡ x → block_in zeros rest l ≡ undo core x
unfolding block_in undone_at
lane_undone held zeros old rest x l h z p e = block-is _ (undone_at 16 (0 + 4 * l) held) (length_undone 16 (0 + 4 * l) held) (z l h) entry ∙ ap (λ (i : ℕ). undo core (get (square 16 i) held)) from_zero ∙ ap (undo core) e
  where
    from_zero : 0 + 4 * l ≡ 4 * l
    from_zero = omega arith

    entry : (k : ℕ) → k < 15 → at rest (15 * l + k) ≡ at (undone_at 16 (0 + 4 * l) held) (k + 1)
    entry k m =
        ap (at rest) (omega arith) ∙ p.own (15 * l + k) (omega arith)
        ∙ ap₂ (λ (i j : ℕ). at (undone_at 16 (0 + 4 * i) held) (j + 1)) (omega arith) (omega arith)
