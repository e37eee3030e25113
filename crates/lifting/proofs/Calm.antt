-- Programs that do not wrap, joined by the largest magnitude: programs at different places find the numbers as they were, so that many of them grow the numbers no more than one does.
use Prim.Native.Nat.{ℕ, zero, suc, ◌≤◌, ◌<◌}
use mathlib.Core.Path.{◌≡◌, refl, sym, ◌∙◌, ap, subst}
use mathlib.Core.Bool.{Bool, false, ◌||◌}
use mathlib.Core.List.{List, [], ◌∷◌}
use native.Mathlib.Omega.{arith}
use lib.ListN.{length, set, drop}
use lib.IntN.{ℤ, nat_abs}
use Rattle.lifting.specs.Program.{Program, end, apply, Operator, at, get, put, run, undo, run_by, undo_by}
use Rattle.lifting.specs.Wraps.{wraps, undo_wraps, Within, Reaches}
use Rattle.lifting.proofs.Compose.{run_then, undo_then}
use Rattle.lifting.proofs.Tests.{no_or}
use Rattle.lifting.proofs.Between.{All, all_map}
use Rattle.lifting.proofs.Apart.{Joins, put_rest}
use Rattle.lifting.proofs.NoWrap.{wraps_then, undo_wraps_then, wraps-apply, undo-wraps-apply}

-- ---- magnitudes

-- a place past the end reads as 0
pub within_all : {B : ℕ} (v : List ℤ) → ((i : ℕ) → i < length v → nat_abs (at v i) ≤ B) → Within B v
within_all [] h = record { within = λ i. omega arith }
within_all (x ∷ v) h = record { within = elim [ zero ↦ h zero (omega arith) | suc i ↦ (within_all v (λ j l. h (suc j) (omega arith))).within i ] }

within-set : (C : ℕ) (v : List ℤ) (i : ℕ) (x : ℤ) → nat_abs x ≤ C → ((j : ℕ) → nat_abs (at v j) ≤ C) → (j : ℕ) → nat_abs (at (set v i x) j) ≤ C
within-set C [] i x h f j = f j
within-set C (y ∷ v) zero x h f zero = h
within-set C (y ∷ v) zero x h f (suc j) = f (suc j)
within-set C (y ∷ v) (suc i) x h f zero = f zero
within-set C (y ∷ v) (suc i) x h f (suc j) = within-set C v i x h (λ k. f (suc k)) j

within-tail : {C : ℕ} {xs : List ℤ} → Within C xs → Within C (drop 1 xs)
within-tail {xs = []} h = h
within-tail {xs = x ∷ xs} h = record { within = λ i. h.within (suc i) }

within-put : {C : ℕ} (ps : List ℕ) {xs v : List ℤ} → Within C xs → Within C v → Within C (put ps xs v)
unfolding put
within-put [] h k = k
within-put {C} (p ∷ ps) {xs} {v} h k = within-put ps (within-tail h) (record { within = within-set C v p (at xs 0) (h.within 0) k.within })

length-get : (ps : List ℕ) (v : List ℤ) → length (get ps v) ≡ length ps
unfolding get
length-get [] v = refl
length-get (p ∷ ps) v = ap suc (length-get ps v)

pub within-get : (B : ℕ) (ps : List ℕ) (v : List ℤ) → All (λ i. nat_abs (at v i) ≤ B) ps → Within B (get ps v)
unfolding get
within-get B [] v h = record { within = λ i. omega arith }
within-get B (p ∷ ps) v h = record { within = elim [ zero ↦ h.0 | suc i ↦ (within-get B ps v h.1).within i ] }

-- ---- on rows of numbers of at most C, of which those at the places of S are at most B: nothing wraps, the numbers stay at most C,
-- and none outside S changes

pub record Calm (B C : ℕ) (S : ℕ → Type 0) (wrapped : List ℤ → Bool) (after : List ℤ → List ℤ) : Type 0 where
  pub calm : {v : List ℤ} → Within C v → ((i : ℕ) → S i → nat_abs (at v i) ≤ B) → wrapped v ≡ false
  pub most : {v : List ℤ} → Within C v → ((i : ℕ) → S i → nat_abs (at v i) ≤ B) → Within C (after v)
  pub rest : (v : List ℤ) (i : ℕ) → ¬ S i → at (after v) i ≡ at v i

module _ {B C : ℕ} where
  calm_weaken : {S U : ℕ → Type 0} {w : List ℤ → Bool} {f : List ℤ → List ℤ} → ((i : ℕ) → S i → U i) → Calm B C S w f → Calm B C U w f
  calm_weaken k h = record {
    calm = λ m l. h.calm m (λ i s. l i (k i s));
    most = λ m l. h.most m (λ i s. l i (k i s));
    rest = λ v i n. h.rest v i (λ s. n (k i s));
  }

  -- one and then another, at different places
  calm-after : {S R U : ℕ → Type 0} {w x : List ℤ → Bool} {f g : List ℤ → List ℤ} → ((i : ℕ) → S i → R i → ⊥) → ((i : ℕ) → S i → U i) → ((i : ℕ) → R i → U i)
      → Calm B C S w f → Calm B C R x g → Calm B C U (λ v. w v || x (f v)) (λ v. g (f v))
  calm-after {S} {R} {U} {w} {x} {f} {g} d k l a b = record {
    calm = λ {v} m h. no_or (a.calm m (λ i s. h i (k i s))) (b.calm (a.most m (λ i s. h i (k i s))) (kept v h));
    most = λ {v} m h. b.most (a.most m (λ i s. h i (k i s))) (kept v h);
    rest = λ v i n. b.rest (f v) i (λ r. n (l i r)) ∙ a.rest v i (λ s. n (k i s));
  }
    where
      kept : (v : List ℤ) → ((i : ℕ) → U i → nat_abs (at v i) ≤ B) → (i : ℕ) → R i → nat_abs (at (f v) i) ≤ B
      kept v h i r = rw (a.rest v i (λ s. d i s r)) (h i (l i r))

  -- a use at places of S
  calm_use : {n : ℕ} {S : ℕ → Type 0} {w : List ℤ → Bool} {f : List ℤ → List ℤ} (ps : List ℕ)
      → Reaches n B C w f → length ps ≡ n → All S ps → Calm B C S (λ v. w (get ps v)) (λ v. put ps (f (get ps v)) v)
  calm_use {S} {f} ps g e s = record {
    calm = λ {v} c h. g.calm (length-get ps v ∙ e) (within-get B ps v (all_map ps h s));
    most = λ {v} c h. within-put ps (g.most (length-get ps v ∙ e) (within-get B ps v (all_map ps h s))) c;
    rest = λ v. put_rest S ps (f (get ps v)) v s;
  }

  calm_as : {S : ℕ → Type 0} {w x : List ℤ → Bool} {f g : List ℤ → List ℤ} → ((v : List ℤ) → x v ≡ w v) → ((v : List ℤ) → g v ≡ f v) → Calm B C S w f → Calm B C S x g
  calm_as k l h = record {
    calm = λ {v} m s. k v ∙ h.calm m s;
    most = λ {v} m s. subst (Within C) (sym (l v)) (h.most m s);
    rest = λ v i n. ap (λ u. at u i) (l v) ∙ h.rest v i n;
  }

-- ---- programs, run or undone

abbrev pub RunCalm : ℕ → ℕ → (ℕ → Type 0) → Program → Type 0
RunCalm B C S a = Calm B C S (wraps a) (run a)

abbrev pub UndoCalm : ℕ → ℕ → (ℕ → Type 0) → Program → Type 0
UndoCalm B C S a = Calm B C S (undo_wraps a) (undo a)

pub run_joins : (B C : ℕ) → Joins (RunCalm B C)
unfolding wraps run_by
run_joins B C = record {
  nothing = λ S. record { calm = λ m l. refl; most = λ m l. m; rest = λ v i n. refl };
  weaken = calm_weaken;
  join = λ {S} {R} {U} {a} {b} d k l h m. calm_as (wraps_then a b) (run_then a b) (calm-after d k l h m);
}

pub undo_joins : (B C : ℕ) → Joins (UndoCalm B C)
unfolding undo_wraps undo_by
undo_joins B C = record {
  nothing = λ S. record { calm = λ m l. refl; most = λ m l. m; rest = λ v i n. refl };
  weaken = calm_weaken;
  join = λ {S} {R} {U} {a} {b} d k l h m. calm_as (undo_wraps_then a b) (undo_then a b) (calm-after (λ i r s. d i s r) l k m h);
}

module _ {n B C : ℕ} {S : ℕ → Type 0} (o : Operator) (s : Program) (ps : List ℕ) where
  pub run_use : Reaches n B C (wraps s) (run s) → length ps ≡ n → All S ps → RunCalm B C S (apply o s ps end)
  unfolding run_by
  run_use g e h = calm_as (wraps-apply o s ps) (λ v. refl) (calm_use ps g e h)

  pub undo_use : Reaches n B C (undo_wraps s) (undo s) → length ps ≡ n → All S ps → UndoCalm B C S (apply o s ps end)
  unfolding undo_by
  undo_use g e h = calm_as (undo-wraps-apply o s ps) (λ v. refl) (calm_use ps g e h)
