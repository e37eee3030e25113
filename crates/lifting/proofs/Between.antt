-- Two programs on two rows, of which some places correspond, one to one. Each use of the one program is matched by the same use of the other on the corresponding places,
-- or its places correspond to none. Then rows that are alike at corresponding places stay so. Locality is the case in which places of a set correspond to themselves.
use Prim.Native.Nat.{ℕ, zero, suc, ◌+◌, ◌≤◌, ◌<◌}
use mathlib.Core.Path.{◌≡◌, refl, sym, ◌∙◌, subst}
use mathlib.Core.Logic.{by_cases}
use mathlib.Core.List.{List, [], ◌∷◌, ◌++◌}
use native.Mathlib.Omega.{arith}
use native.Mathlib.Decide.{ℕ_discrete, dec_le, dec_lt}
use lib.ListN.{length, set, drop, length-set}
use lib.Seq.{set_out, get_or-set_same, get_or-set_other}
use lib.IntN.{ℤ, pos}
use Rattle.lifting.specs.Program.{Program, end, apply, Operator, at, get, put, run, undo, ◌then◌, each, run_by, undo_by}
use Rattle.lifting.proofs.Compose.{run_then, undo_then}

-- P at all places of a list
abbrev pub All : (ℕ → Type 0) → List ℕ → Type 0
All P [] = Unit {0}
All P (p ∷ ps) = P p × All P ps

pub all_map : {P Q : ℕ → Type 0} (ps : List ℕ) → ((i : ℕ) → P i → Q i) → All P ps → All Q ps
all_map [] f h = tt
all_map (p ∷ ps) f h = (f p h.0, all_map ps f h.1)

-- place i of one row corresponds to place j of another: R i j
abbrev pub Pairing : Type 1
Pairing = ℕ → ℕ → Type 0

-- each place to one place at most, and from one
pub record OneToOne (R : Pairing) : Type 0 where
  pub to : {i j k : ℕ} → R i j → R i k → j ≡ k
  pub from : {i j k : ℕ} → R i k → R j k → i ≡ j

-- places that correspond one by one
abbrev pub Pairs : Pairing → List ℕ → List ℕ → Type 0
Pairs R [] [] = Unit {0}
Pairs R [] (q ∷ qs) = ⊥
Pairs R (p ∷ ps) [] = ⊥
Pairs R (p ∷ ps) (q ∷ qs) = R p q × Pairs R ps qs

pub pairs-append : (R : Pairing) (ps qs ps' qs' : List ℕ) → Pairs R ps qs → Pairs R ps' qs' → Pairs R (ps ++ ps') (qs ++ qs')
pairs-append R [] [] ps' qs' h k = k
pairs-append R [] (q ∷ qs) ps' qs' h k = absurd h
pairs-append R (p ∷ ps) [] ps' qs' h k = absurd h
pairs-append R (p ∷ ps) (q ∷ qs) ps' qs' h k = (h.0, pairs-append R ps qs ps' qs' h.1 k)

-- places of the left row, and of the right, that correspond to none
abbrev pub FreeLeft : Pairing → List ℕ → Type 0
FreeLeft R ps = All (λ i. (j : ℕ) → ¬ R i j) ps

abbrev pub FreeRight : Pairing → List ℕ → Type 0
FreeRight R qs = All (λ j. (i : ℕ) → ¬ R i j) qs

-- the same numbers at corresponding places, which lie both inside their rows or both outside
pub record Alike (R : Pairing) (v w : List ℤ) : Type 0 where
  pub ends : {i j : ℕ} → R i j → (i < length v → j < length w) × (j < length w → i < length v)
  pub same : {i j : ℕ} → R i j → at v i ≡ at w j

-- what holds of two rows holds of them after a on the one and b on the other, in both directions
pub record Like (A : List ℤ → List ℤ → Type 0) (a b : Program) : Type 0 where
  pub runs : (v w : List ℤ) → A v w → A (run a v) (run b w)
  pub undoes : (v w : List ℤ) → A v w → A (undo a v) (undo b w)

-- ---- programs one after another

module _ (A : List ℤ → List ℤ → Type 0) where
  pub like_end : Like A end end
  unfolding run_by undo_by
  like_end = record { runs = λ v w h. h; undoes = λ v w h. h }

  pub like_then : (a b c d : Program) → Like A a c → Like A b d → Like A (a then b) (c then d)
  like_then a b c d f g = record {
    runs = λ v w h. rw (run_then a b v, run_then c d w) (g.runs _ _ (f.runs v w h));
    undoes = λ v w h. rw (undo_then a b v, undo_then c d w) (f.undoes _ _ (g.undoes v w h));
  }

  pub both_free : (a b : Program) → Like A a end → Like A end b → Like A a b
  unfolding run_by undo_by
  both_free a b f g = record { runs = λ v w h. g.runs _ _ (f.runs v w h); undoes = λ v w h. g.undoes _ _ (f.undoes v w h) }

  pub none_left : (n : ℕ) (f : ℕ → Program) → ((i : ℕ) → i < n → Like A (f i) end) → Like A (each n f) end
  unfolding each ◌then◌
  none_left zero f h = like_end
  none_left (suc n) f h = like_then (each n f) (f n) end end (none_left n f (λ i l. h i (omega arith))) (h n (omega arith))

  pub none_right : (n : ℕ) (f : ℕ → Program) → ((i : ℕ) → i < n → Like A end (f i)) → Like A end (each n f)
  unfolding each ◌then◌
  none_right zero f h = like_end
  none_right (suc n) f h = like_then end end (each n f) (f n) (none_right n f (λ i l. h i (omega arith))) (h n (omega arith))

  pub like_all : (n : ℕ) (f g : ℕ → Program) → ((i : ℕ) → i < n → Like A (f i) (g i)) → Like A (each n f) (each n g)
  unfolding each
  like_all zero f g h = like_end
  like_all (suc n) f g h = like_then (each n f) (f n) (each n g) (g n) (like_all n f g (λ i l. h i (omega arith))) (h n (omega arith))

  -- uses on the right alone, after those that are matched
  more_right : (a b c : Program) → Like A a b → Like A end c → Like A a (b then c)
  unfolding run_by undo_by
  more_right a b c f g = record {
    runs = λ v w h. rw (run_then b c w) (g.runs _ _ (f.runs v w h));
    undoes = λ v w h. rw (undo_then b c w) (f.undoes _ _ (g.undoes v w h));
  }

  -- n uses on the left, matched by the uses k, .., k + n - 1 of N on the right
  pub like_each : (k n N : ℕ) (f g : ℕ → Program) → k + n ≤ N → ((i : ℕ) → i < n → Like A (f i) (g (k + i))) → ((i : ℕ) → i < N → (k ≤ i → i < k + n → ⊥) → Like A end (g i))
      → Like A (each n f) (each N g)
  unfolding each
  like_each k zero N f g le match others = none_right N g (λ i l. others i l (λ h m. omega arith))
  like_each k (suc n) zero f g le match others = absurd (omega arith)
  like_each k (suc n) (suc N) f g le match others =
      by_cases (dec_le (k + suc n) N)
      (λ h. more_right (each (suc n) f) (each N g) (g N) (like_each k (suc n) N f g h match (λ i l. others i (omega arith))) (others N (omega arith) (λ a b. omega arith)))
      (λ h.
      let e : k + n ≡ N = omega (arith, h) in
      like_then (each n f) (f n) (each N g) (g N)
      (like_each k n N f g (omega arith) (λ i l. match i (omega arith)) (λ i l o. others i (omega arith) (λ a b. o a (omega arith))))
      (subst (λ (i : ℕ). Like A (f n) (g i)) e (match n (omega arith))))

-- ---- uses

not_lt : {m n : ℕ} → ¬ (m < n) → n ≤ m
not_lt h = omega (arith, h)

module _ (R : Pairing) where
  set-left : {v w : List ℤ} (p : ℕ) (x : ℤ) → ((j : ℕ) → ¬ R p j) → Alike R v w → Alike R (set v p x) w
  set-left {v} {w} p x h a = record {
    ends = λ r. rw (length-set v p x) (a.ends r);
    same = λ {i} {j} r. get_or-set_other v p i x (pos 0) (λ e. h j (subst (λ (n : ℕ). R n j) e r)) ∙ a.same r;
  }

  set-right : {v w : List ℤ} (q : ℕ) (x : ℤ) → ((i : ℕ) → ¬ R i q) → Alike R v w → Alike R v (set w q x)
  set-right {v} {w} q x h a = record {
    ends = λ r. rw (length-set w q x) (a.ends r);
    same = λ {i} {j} r. a.same r ∙ sym (get_or-set_other w q j x (pos 0) (λ e. h i (subst (λ (n : ℕ). R i n) e r)));
  }

  pub put-left : (ps : List ℕ) (xs : List ℤ) {v w : List ℤ} → FreeLeft R ps → Alike R v w → Alike R (put ps xs v) w
  unfolding put
  put-left [] xs h a = a
  put-left (p ∷ ps) xs h a = put-left ps (drop 1 xs) h.1 (set-left p (at xs 0) h.0 a)

  pub put_right : (qs : List ℕ) (xs : List ℤ) {v w : List ℤ} → FreeRight R qs → Alike R v w → Alike R v (put qs xs w)
  unfolding put
  put_right [] xs h a = a
  put_right (q ∷ qs) xs h a = put_right qs (drop 1 xs) h.1 (set-right q (at xs 0) h.0 a)

  -- a use whose places correspond to none, on the left, and on the right
  pub free_left : (o : Operator) (s : Program) (ps : List ℕ) → FreeLeft R ps → Like (Alike R) (apply o s ps end) end
  unfolding run_by undo_by
  free_left o s ps h = record { runs = λ v w. put-left ps _ h; undoes = λ v w. put-left ps _ h }

  pub free_right : (o : Operator) (s : Program) (qs : List ℕ) → FreeRight R qs → Like (Alike R) end (apply o s qs end)
  unfolding run_by undo_by
  free_right o s qs h = record { runs = λ v w. put_right qs _ h; undoes = λ v w. put_right qs _ h }

  module _ (one : OneToOne R) where
    set_both : {v w : List ℤ} {p q : ℕ} (x : ℤ) → R p q → Alike R v w → Alike R (set v p x) (set w q x)
    set_both {v} {w} {p} {q} x h a = record {
      ends = λ r. rw (length-set v p x, length-set w q x) (a.ends r);
      same = same;
    }
      where
        stored : at (set v p x) p ≡ at (set w q x) q
        stored =
            by_cases (dec_lt p (length v))
            (λ l. get_or-set_same v p x (pos 0) l ∙ sym (get_or-set_same w q x (pos 0) ((a.ends h).0 l)))
            (λ n. rw (set_out v p x (omega (arith, n)), set_out w q x (not_lt (λ l. n ((a.ends h).1 l)))) (a.same h))

        same : {i j : ℕ} → R i j → at (set v p x) i ≡ at (set w q x) j
        same {i} {j} r =
            by_cases (ℕ_discrete i p)
            (λ e. let f : j ≡ q = one.to (subst (λ (n : ℕ). R n j) e r) h in rw (e, f) stored)
            (λ n. get_or-set_other v p i x (pos 0) n ∙ a.same r ∙ sym (get_or-set_other w q j x (pos 0) (λ e. n (one.from (subst (λ (m : ℕ). R i m) e r) h))))

    pub get-both : (ps qs : List ℕ) {v w : List ℤ} → Pairs R ps qs → Alike R v w → get ps v ≡ get qs w
    unfolding get
    get-both [] [] h a = refl
    get-both [] (q ∷ qs) h a = absurd h
    get-both (p ∷ ps) [] h a = absurd h
    get-both (p ∷ ps) (q ∷ qs) h a = rw (a.same h.0, get-both ps qs h.1 a)

    put_both : (ps qs : List ℕ) (xs : List ℤ) {v w : List ℤ} → Pairs R ps qs → Alike R v w → Alike R (put ps xs v) (put qs xs w)
    unfolding put
    put_both [] [] xs h a = a
    put_both [] (q ∷ qs) xs h a = absurd h
    put_both (p ∷ ps) [] xs h a = absurd h
    put_both (p ∷ ps) (q ∷ qs) xs h a = put_both ps qs (drop 1 xs) h.1 (set_both (at xs 0) h.0 a)

    use-both : (F : List ℤ → List ℤ) (ps qs : List ℕ) {v w : List ℤ} → Pairs R ps qs → Alike R v w → Alike R (put ps (F (get ps v)) v) (put qs (F (get qs w)) w)
    use-both F ps qs {v} {w} h a = rw (get-both ps qs h a) (put_both ps qs (F (get qs w)) h a)

    pub like-use : (o : Operator) (s : Program) (ps qs : List ℕ) → Pairs R ps qs → Like (Alike R) (apply o s ps end) (apply o s qs end)
    unfolding run_by undo_by
    like-use o s ps qs h = record { runs = λ v w. use-both (run s) ps qs h; undoes = λ v w. use-both (undo s) ps qs h }
