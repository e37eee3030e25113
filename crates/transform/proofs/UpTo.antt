-- A slice that is filled from the front: after i turns its first i numbers are those of a table and the rest are as they were; one more turn moves one number over.
use Prim.Native.Nat.{ℕ, zero, suc, ◌+◌, ◌≤◌, ◌<◌}
use mathlib.Core.Path.{◌≡◌, refl, sym, ap, ◌∙◌}
use mathlib.Core.List.{List, [], ◌∷◌, ◌++◌, append_assoc, append-nil, map}
use native.Mathlib.Omega.{arith}
use native.Mathlib.Numerals.{add-one}
use lib.ListN.{length, drop, get_or, set, length-set}
use lib.Seq.{drop-cons, drop-length, set_at, get_or_at}
use lib.IntN.{ℤ, pos}
use Rattle.lifting.specs.Program.{at}
use Rattle.picture.specs.Table.{table}
use Rattle.picture.proofs.Table.{length-table}

table_more : (n : ℕ) (f : ℕ → ℤ) → table (suc n) f ≡ table n f ++ (f n ∷ [])
unfolding table
table_more zero f = refl
table_more (suc n) f = ap (λ (l : List ℤ). f zero ∷ l) (table_more n (λ i. f (suc i)))

-- up to place i it now has the numbers of f, and from there on those of p
pub record UpTo (f : ℕ → ℤ) (p : List ℤ) (i : ℕ) (now : List ℤ) : Type 0 where
  pub most : i ≤ length p
  pub long : length now ≡ length p
  pub is : now ≡ table i f ++ drop i p

pub up_to_none : (f : ℕ → ℤ) (p : List ℤ) → UpTo f p 0 p
unfolding table
up_to_none f p = record { most = omega arith; long = refl; is = refl }

pub up_to_more : {f : ℕ → ℤ} {p now : List ℤ} {i : ℕ} {y : ℤ} → UpTo f p i now → i < length p → y ≡ f i → UpTo f p (i + 1) (set now i y)
up_to_more {f} {p} {now} {i} u h q = record {
  most = omega arith;
  long = simp length-set u.long;
  is =
      rw (u.is, q, drop-cons p i (pos 0) h, set_at (table i f) (get_or p i (pos 0)) (drop (suc i) p) (f i) i (length-table i f), add-one i, table_more i f)
      (sym (append_assoc (table i f) (f i ∷ []) (drop (suc i) p)));
}

-- the next number is as it was
pub up_to_next : {f : ℕ → ℤ} {p now : List ℤ} {i : ℕ} → UpTo f p i now → i < length p → at now i ≡ at p i
up_to_next {f} {p} {now} {i} u h = rw (u.is, drop-cons p i (pos 0) h) (get_or_at (table i f) (at p i) (drop (suc i) p) (pos 0) i (length-table i f))

pub up_to_all : {f : ℕ → ℤ} {p now : List ℤ} {i : ℕ} → UpTo f p i now → i ≡ length p → now ≡ table (length p) f
up_to_all {f} {p} u e = u.is ∙ rw (e, drop-length p) (append-nil (table (length p) f))

-- ---- each number from the one at its place in another list, which may be p itself

map-table : (g : ℤ → ℤ) (from : List ℤ) → table (length from) (λ k. g (at from k)) ≡ map g from
unfolding table
map-table g [] = refl
map-table g (x ∷ from) = ap (λ (l : List ℤ). g x ∷ l) (map-table g from)

pub up_to_mapped : (g : ℤ → ℤ) (from : List ℤ) {p now : List ℤ} {i : ℕ} → UpTo (λ k. g (at from k)) p i now → length from ≡ length p → i ≡ length p → now ≡ map g from
up_to_mapped g from u h e = up_to_all u e ∙ rw (← h) (map-table g from)
