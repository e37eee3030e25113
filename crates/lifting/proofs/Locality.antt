-- Rows that agree on a set P of places: the case of one row against itself, in which each place of P corresponds to itself.
-- A use on places of P keeps the agreement, and one on places outside P does nothing there.
use Prim.Native.Nat.{ℕ}
use mathlib.Core.Path.{◌≡◌, refl, sym, ◌∙◌, ap}
use mathlib.Core.List.{List, [], ◌∷◌}
use native.Mathlib.Omega.{arith}
use lib.ListN.{length}
use lib.IntN.{ℤ}
use Rattle.lifting.specs.Program.{Program, end, apply, Operator, at, get, put, run_by, undo_by}
use Rattle.lifting.proofs.Reverse.{length-put}
use Rattle.lifting.proofs.Between.{All, all_map, Pairing, OneToOne, Pairs, Alike, Like, put-left, get-both, like-use}

pub record Agree (P : ℕ → Type 0) (v w : List ℤ) : Type 0 where
  pub len : length v ≡ length w
  pub same : (j : ℕ) → P j → at v j ≡ at w j

pub agree_refl : {P : ℕ → Type 0} {v : List ℤ} → Agree P v v
agree_refl = record { len = refl; same = λ j t. refl }

module _ (P : ℕ → Type 0) where
  abbrev Itself : Pairing
  Itself i j = P i × (i ≡ j)

  one_to_one : OneToOne Itself
  one_to_one = record { to = λ a b. sym a.1 ∙ b.1; from = λ a b. a.1 ∙ sym b.1 }

  pairs_itself : (ps : List ℕ) → All P ps → Pairs Itself ps ps
  pairs_itself [] h = tt
  pairs_itself (p ∷ ps) h = ((h.0, refl), pairs_itself ps h.1)

  to_alike : {v w : List ℤ} → Agree P v w → Alike Itself v w
  to_alike {v} {w} a = record { ends = λ r. let e = r.1 in (λ l. omega (arith, a.len), λ l. omega (arith, a.len)); same = λ {i} {j} r. a.same i r.0 ∙ ap (at w) r.1 }

  of_alike : {v w : List ℤ} → length v ≡ length w → Alike Itself v w → Agree P v w
  of_alike e a = record { len = e; same = λ j t. a.same (t, refl) }

  pub get-same : (ps : List ℕ) {v w : List ℤ} → All P ps → Agree P v w → get ps v ≡ get ps w
  get-same ps h a = get-both Itself one_to_one ps ps (pairs_itself ps h) (to_alike a)

  -- places outside P change nothing in P
  pub put_keeps : (ps : List ℕ) (xs : List ℤ) {v w : List ℤ} → All (λ i. ¬ P i) ps → Agree P v w → Agree P (put ps xs v) w
  put_keeps ps xs {v} h a = of_alike (length-put ps xs v ∙ a.len) (put-left Itself ps xs (all_map ps (λ i n j r. n r.0) h) (to_alike a))

  pub use_outside : (o : Operator) (s : Program) (ps : List ℕ) → All (λ i. ¬ P i) ps → Like (Agree P) (apply o s ps end) end
  unfolding run_by undo_by
  use_outside o s ps h = record { runs = λ v w. put_keeps ps _ h; undoes = λ v w. put_keeps ps _ h }

  pub use_inside : (o : Operator) (s : Program) (ps : List ℕ) → All P ps → Like (Agree P) (apply o s ps end) (apply o s ps end)
  unfolding run_by undo_by
  use_inside o s ps h = record {
    runs = λ v w a. of_alike (length-put ps _ v ∙ a.len ∙ sym (length-put ps _ w)) (like.runs v w (to_alike a));
    undoes = λ v w a. of_alike (length-put ps _ v ∙ a.len ∙ sym (length-put ps _ w)) (like.undoes v w (to_alike a));
  }
    where
      like : Like (Alike Itself) (apply o s ps end) (apply o s ps end)
      like = like-use Itself one_to_one o s ps ps (pairs_itself ps h)
