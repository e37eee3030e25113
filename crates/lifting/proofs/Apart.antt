-- Programs at different places do not see what the others do. A family of programs, each with a set of places, that is kept by joining programs whose sets are apart
-- holds of n programs that a key of the places tells apart: by induction on n. Such a family is the programs that wrap where one of their uses does on the row as it was.
use Prim.Native.Nat.{ℕ, zero, suc, ◌<◌}
use mathlib.Core.Path.{◌≡◌, refl, sym, ◌∙◌, ap, ap₂}
use mathlib.Core.Bool.{Bool, ◌||◌, or_comm}
use mathlib.Core.List.{List, [], ◌∷◌}
use native.Mathlib.Omega.{arith}
use lib.IntN.{ℤ}
use Rattle.lifting.specs.Program.{Program, end, apply, Operator, at, get, put, run, undo, ◌then◌, each, run_by, undo_by}
use Rattle.lifting.specs.Wraps.{wraps, undo_wraps}
use Rattle.lifting.specs.AnyUse.{any_use}
use Rattle.lifting.proofs.Compose.{run_then, undo_then}
use Rattle.lifting.proofs.Between.{All, all_map}
use Rattle.lifting.proofs.Locality.{agree_refl, put_keeps}
use Rattle.lifting.proofs.NoWrap.{wraps_then, undo_wraps_then, wraps-apply, undo-wraps-apply}
use Rattle.lifting.proofs.AnyUse.{any_use_then, any_use_apply}

-- ---- families that are kept by joining

pub record Joins (G : (ℕ → Type 0) → Program → Type 0) : Type 1 where
  pub nothing : (S : ℕ → Type 0) → G S end
  pub weaken : {S U : ℕ → Type 0} {a : Program} → ((i : ℕ) → S i → U i) → G S a → G U a
  pub join : {S R U : ℕ → Type 0} {a b : Program} → ((i : ℕ) → S i → R i → ⊥) → ((i : ℕ) → S i → U i) → ((i : ℕ) → R i → U i) → G S a → G R b → G U (a then b)

-- n of them, told apart by a key of the places
module _ {G : (ℕ → Type 0) → Program → Type 0} (joins : Joins G) where
  below : (n : ℕ) (f : ℕ → Program) (U : ℕ → Type 0) (key : ℕ → ℕ) → ((k : ℕ) → k < n → G (λ i. U i × (key i ≡ k)) (f k)) → G (λ i. U i × (key i < n)) (each n f)
  unfolding each
  below zero f U key h = joins.nothing _
  below (suc n) f U key h =
      joins.join (λ i s r. omega (arith, s.1, r.1)) (λ i s. (s.0, omega (arith, s.1))) (λ i r. (r.0, omega (arith, r.1)))
      (below n f U key (λ k l. h k (omega arith))) (h n (omega arith))

  pub of-each : (n : ℕ) (f : ℕ → Program) (U : ℕ → Type 0) (key : ℕ → ℕ) → ((k : ℕ) → k < n → G (λ i. U i × (key i ≡ k)) (f k)) → G U (each n f)
  of-each n f U key h = joins.weaken (λ i s. s.0) (below n f U key h)

-- ---- a use at places of S

pub put_rest : (S : ℕ → Type 0) (ps : List ℕ) (xs v : List ℤ) → All S ps → (i : ℕ) → ¬ S i → at (put ps xs v) i ≡ at v i
put_rest S ps xs v h i n = (put_keeps (λ j. ¬ S j) ps xs (all_map ps (λ j t u. u t) h) agree_refl).same i n

get_alike : (ps : List ℕ) (v u : List ℤ) → All (λ i. at v i ≡ at u i) ps → get ps v ≡ get ps u
unfolding get
get_alike [] v u h = refl
get_alike (p ∷ ps) v u h = ap₂ ◌∷◌ h.0 (get_alike ps v u h.1)

-- ---- programs that wrap where one of their uses does on the row as it was: `found` sees only the numbers in S, and nothing outside S changes

pub record Alone (S : ℕ → Type 0) (wrapped found : List ℤ → Bool) (after : List ℤ → List ℤ) : Type 0 where
  pub alone : (v : List ℤ) → wrapped v ≡ found v
  pub sees : (v u : List ℤ) → ((i : ℕ) → S i → at v i ≡ at u i) → found v ≡ found u
  pub rest : (v : List ℤ) (i : ℕ) → ¬ S i → at (after v) i ≡ at v i

alone_weaken : {S U : ℕ → Type 0} {w d : List ℤ → Bool} {f : List ℤ → List ℤ} → ((i : ℕ) → S i → U i) → Alone S w d f → Alone U w d f
alone_weaken k h = record { alone = h.alone; sees = λ v u e. h.sees v u (λ i s. e i (k i s)); rest = λ v i n. h.rest v i (λ s. n (k i s)) }

alone_after : {S R U : ℕ → Type 0} {w x c d : List ℤ → Bool} {f g : List ℤ → List ℤ} → ((i : ℕ) → S i → R i → ⊥) → ((i : ℕ) → S i → U i) → ((i : ℕ) → R i → U i)
    → Alone S w c f → Alone R x d g → Alone U (λ v. w v || x (f v)) (λ v. c v || d v) (λ v. g (f v))
alone_after {f} apart k l a b = record {
  alone = λ v. ap₂ ◌||◌ (a.alone v) (b.alone (f v) ∙ b.sees (f v) v (λ i r. a.rest v i (λ s. apart i s r)));
  sees = λ v u e. ap₂ ◌||◌ (a.sees v u (λ i s. e i (k i s))) (b.sees v u (λ i r. e i (l i r)));
  rest = λ v i n. b.rest (f v) i (λ r. n (l i r)) ∙ a.rest v i (λ s. n (k i s));
}

alone_use : {S : ℕ → Type 0} (w : List ℤ → Bool) (f : List ℤ → List ℤ) (ps : List ℕ) → All S ps → Alone S (λ v. w (get ps v)) (λ v. w (get ps v)) (λ v. put ps (f (get ps v)) v)
alone_use {S} w f ps h = record {
  alone = λ v. refl;
  sees = λ v u e. ap w (get_alike ps v u (all_map ps e h));
  rest = λ v. put_rest S ps (f (get ps v)) v h;
}

alone_as : {S : ℕ → Type 0} {w x c d : List ℤ → Bool} {f g : List ℤ → List ℤ} → ((v : List ℤ) → x v ≡ w v) → ((v : List ℤ) → d v ≡ c v) → ((v : List ℤ) → g v ≡ f v)
    → Alone S w c f → Alone S x d g
alone_as k l m h = record {
  alone = λ v. k v ∙ h.alone v ∙ sym (l v);
  sees = λ v u e. l v ∙ h.sees v u e ∙ sym (l u);
  rest = λ v i n. ap (λ t. at t i) (m v) ∙ h.rest v i n;
}

-- ---- run, and undone

abbrev pub RunAlone : (ℕ → Type 0) → Program → Type 0
RunAlone S a = Alone S (wraps a) (any_use wraps a) (run a)

abbrev pub UndoneAlone : (ℕ → Type 0) → Program → Type 0
UndoneAlone S a = Alone S (undo_wraps a) (any_use undo_wraps a) (undo a)

pub run_alone : Joins RunAlone
unfolding wraps run_by any_use
run_alone = record {
  nothing = λ S. record { alone = λ v. refl; sees = λ v u e. refl; rest = λ v i n. refl };
  weaken = alone_weaken;
  join = λ {S} {R} {U} {a} {b} d k l h m. alone_as (wraps_then a b) (any_use_then wraps a b) (run_then a b) (alone_after d k l h m);
}

pub undone_alone : Joins UndoneAlone
unfolding undo_wraps undo_by any_use
undone_alone = record {
  nothing = λ S. record { alone = λ v. refl; sees = λ v u e. refl; rest = λ v i n. refl };
  weaken = alone_weaken;
  join = λ {S} {R} {U} {a} {b} d k l h m.
      alone_as (undo_wraps_then a b) (λ v. any_use_then undo_wraps a b v ∙ or_comm (any_use undo_wraps a v) (any_use undo_wraps b v)) (undo_then a b) (alone_after (λ i r s. d i s r) l k m h);
}

module _ (o : Operator) (s : Program) (ps : List ℕ) {S : ℕ → Type 0} (h : All S ps) where
  pub run_alone_use : RunAlone S (apply o s ps end)
  unfolding run_by
  run_alone_use = alone_as (wraps-apply o s ps) (any_use_apply wraps o s ps) (λ v. refl) (alone_use (wraps s) (run s) ps h)

  pub undone_alone_use : UndoneAlone S (apply o s ps end)
  unfolding undo_by
  undone_alone_use = alone_as (undo-wraps-apply o s ps) (any_use_apply undo_wraps o s ps) (λ v. refl) (alone_use (undo_wraps s) (undo s) ps h)
