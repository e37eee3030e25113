-- How `any_use` goes through programs one after another, by induction on the first, and what it says of a single use; and a walk through uses, or through lines
-- of them, that ends at the first that is judged so.
use Prim.Native.Nat.{ℕ, zero, suc, ◌+◌, ◌≤◌, ◌<◌}
use mathlib.Core.Path.{◌≡◌, refl, sym, ◌∙◌, ap}
use mathlib.Core.Bool.{Bool, true, false, ◌||◌, or_assoc, or-false}
use mathlib.Core.List.{List}
use native.Mathlib.Omega.{arith}
use lib.IntN.{ℤ}
use Rattle.lifting.specs.Program.{Operator, Program, end, ◌⨾◌, reorder, apply, get, ◌then◌, each}
use Rattle.lifting.specs.Tests.{any}
use Rattle.lifting.specs.AnyUse.{any_use}
use Rattle.lifting.proofs.Tests.{None, none_yet, none_more, any_yes, any_none}

module _ (judge : Program → List ℤ → Bool) where
  pub any_use_then : (p q : Program) (v : List ℤ) → any_use judge (p then q) v ≡ any_use judge p v || any_use judge q v
  unfolding any_use ◌then◌
  any_use_then end q v = refl
  any_use_then (l ⨾ p) q v = any_use_then p q v
  any_use_then (reorder to back p) q v = any_use_then p q v
  any_use_then (apply o s ps p) q v = ap (λ b. judge s (get ps v) || b) (any_use_then p q v) ∙ sym (or_assoc (judge s (get ps v)) _ _)

  pub any_use_each : (n : ℕ) (f : ℕ → Program) (v : List ℤ) → any_use judge (each n f) v ≡ any n (λ i. any_use judge (f i) v)
  unfolding any_use each
  any_use_each zero f v = refl
  any_use_each (suc n) f v = any_use_then (each n f) (f n) v ∙ ap (λ b. b || any_use judge (f n) v) (any_use_each n f v)

  pub any_use_apply : (o : Operator) (s : Program) (ps : List ℕ) (v : List ℤ) → any_use judge (apply o s ps end) v ≡ judge s (get ps v)
  unfolding any_use
  any_use_apply o s ps v = or-false (judge s (get ps v))

  -- a use, told by the numbers that were read at its places
  pub use_told : (o : Operator) (s : Program) (ps : List ℕ) (v : List ℤ) {x : List ℤ} {b : Bool} → b ≡ judge s x → x ≡ get ps v → b ≡ any_use judge (apply o s ps end) v
  use_told o s ps v e f = e ∙ ap (judge s) f ∙ sym (any_use_apply o s ps v)

  pub four-told : (p q r s : Program) (v : List ℤ) {a b c d : Bool} → a ≡ any_use judge p v → b ≡ any_use judge q v → c ≡ any_use judge r v → d ≡ any_use judge s v
      → a || b || c || d ≡ any_use judge (p then q then r then s) v
  four-told p q r s v e f g h = rw (e, f, g, h) (simp (any_use_then, or_assoc))

-- ---- a walk through f 0, f 1, ..

-- those before f k were looked at, and none is judged so
pub record Walked (judge : Program → List ℤ → Bool) (f : ℕ → Program) (v : List ℤ) (k : ℕ) : Type 0 where
  pub none : None k (λ i. any_use judge (f i) v)

module _ {judge : Program → List ℤ → Bool} {f : ℕ → Program} {v : List ℤ} {k : ℕ} where
  pub walk_begins : k ≡ 0 → Walked judge f v k
  walk_begins e = record { none = none_yet _ e }

  pub walk_goes_on : {m : ℕ} {b : Bool} → Walked judge f v k → b ≡ any_use judge (f k) v → b ≡ false → m ≡ k + 1 → Walked judge f v m
  walk_goes_on w told calm more = record { none = none_more k _ w.none (sym told ∙ calm) more }

  -- it ends at f k, which is one of the n
  pub walk_finds : {b : Bool} (n : ℕ) → Walked judge f v k → k < n → b ≡ any_use judge (f k) v → b ≡ true → true ≡ any_use judge (each n f) v
  walk_finds n w inside told found = sym (any_use_each judge n f v ∙ any_yes n _ k inside (sym told ∙ found))

  pub walk_ends : (n : ℕ) → Walked judge f v k → n ≤ k → false ≡ any_use judge (each n f) v
  walk_ends n w past = sym (any_use_each judge n f v ∙ any_none n _ (λ i h. w.none i (omega arith)))
