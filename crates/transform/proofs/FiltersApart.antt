-- A place lies in no two windows of a level's filters: the uses lie at different places, and joining programs at different places adds up counts of which one is 0.
use Prim.Native.Nat.{ℕ, zero, suc, ◌+◌, ◌≤◌, ◌<◌}
use mathlib.Core.Path.{◌≡◌, refl}
use mathlib.Core.Bool.{Bool, true, false}
use mathlib.Core.List.{List, [], ◌∷◌}
use native.Mathlib.Omega.{arith}
use lib.Dec.{eqb}
use borrow.Author.Tests.{eqb-true}
use Rattle.lifting.specs.Program.{Program, Operator, end, ◌⨾◌, reorder, apply, ◌then◌}
use Rattle.lifting.proofs.Between.{All}
use Rattle.lifting.proofs.Apart.{Joins}
use Rattle.picture.specs.Numbers.{◌if◌}
use Rattle.transform.specs.Apart.{among, windows_at, FiltersApart}
use Rattle.transform.specs.Level.{square_filter_at}
use Rattle.transform.proofs.Apart.{of-filters}

-- at most one window has the place i, and only where i is in S
pub record OneWindow (S : ℕ → Type 0) (a : Program) : Type 0 where
  pub most : (i : ℕ) → windows_at a i ≤ 1
  pub inside : (i : ℕ) → 0 < windows_at a i → S i

windows_then : (a b : Program) (i : ℕ) → windows_at (a then b) i ≡ windows_at a i + windows_at b i
unfolding windows_at ◌then◌
windows_then end b i = omega arith
windows_then (l ⨾ a) b i = windows_then a b i
windows_then (reorder to back a) b i = windows_then a b i
windows_then (apply o s ps a) b i = omega (arith, windows_then a b i)

-- two counts of which one is 0
join_most : {A B : Type 0} (m n : ℕ) → (A → B → ⊥) → m ≤ 1 → n ≤ 1 → (0 < m → A) → (0 < n → B) → m + n ≤ 1
join_most zero n apart h k f g = omega arith
join_most (suc m) zero apart h k f g = omega arith
join_most (suc m) (suc n) apart h k f g = absurd (apart (f (omega arith)) (g (omega arith)))

join_inside : {A B C : Type 0} (m n : ℕ) → (A → C) → (B → C) → (0 < m → A) → (0 < n → B) → 0 < m + n → C
join_inside zero n k l f g h = l (g (omega (arith, h)))
join_inside (suc m) n k l f g h = k (f (omega arith))

one-window : Joins OneWindow
unfolding windows_at
one-window = record {
  nothing = λ S. record { most = λ i. omega arith; inside = λ i h. absurd (omega (arith, h)) };
  weaken = λ k h. record { most = h.most; inside = λ i l. k i (h.inside i l) };
  join = λ {S} {R} {U} {a} {b} apart k l h m. record {
    most = λ i. rw (windows_then a b i) (join_most (windows_at a i) (windows_at b i) (apart i) (h.most i) (m.most i) (h.inside i) (m.inside i));
    inside = λ i z. join_inside (windows_at a i) (windows_at b i) (k i) (l i) (h.inside i) (m.inside i) (rw (windows_then a b i) at z);
  };
}

-- ---- one use

one_if : (b : Bool) → (1 if b) + 0 ≤ 1
one_if true = omega arith
one_if false = omega arith

found : (S : ℕ → Type 0) (ps : List ℕ) (i : ℕ) → All S ps → among ps i ≡ true → S i
found S [] i h e = absurd (let z : ◌≡◌ {A = ℕ} 0 1 = cc in omega arith)
found S (p ∷ ps) i h e = case (eqb p i) refl (found S ps i h.1)
  where
    case : (b : Bool) → eqb p i ≡ b → (among ps i ≡ true → S i) → S i
    case true f later = rw (eqb-true p i f) at h.0
    case false f later = later (rw f at e)

one_inside : (S : ℕ → Type 0) (ps : List ℕ) (i : ℕ) → All S ps → (b : Bool) → among ps i ≡ b → 0 < (1 if b) + 0 → S i
one_inside S ps i h true e l = found S ps i h e
one_inside S ps i h false e l = absurd (omega (arith, l))

one_use : (o : Operator) (s : Program) (ps : List ℕ) {S : ℕ → Type 0} → All S ps → OneWindow S (apply o s ps end)
unfolding windows_at
one_use o s ps {S} h = record { most = λ i. one_if (among ps i); inside = λ i l. one_inside S ps i h (among ps i) refl l }

pub filters_apart : FiltersApart
unfolding square_filter_at
filters_apart p q wide tall i =
    (of-filters one-window p q (record { squares = λ S w k h. one_use _ _ _ h; fours = λ S a b c d h. one_use _ _ _ h }) wide tall).most i
