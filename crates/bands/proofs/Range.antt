-- Numbers outside the range: found by a walk from the front, one number at a time; and where none is found, each number is inside. By induction on the list.
use Prim.Native.Nat.{ℕ, zero, suc, ◌+◌, ◌≤◌, ◌<◌}
use mathlib.Core.Path.{◌≡◌, refl, sym, ap, ◌∙◌}
use mathlib.Core.Bool.{Bool, false, ◌||◌, or-false, or_assoc}
use mathlib.Core.List.{List, [], ◌∷◌, map}
use native.Mathlib.Omega.{arith}
use native.Mathlib.Numerals.{add-one}
use lib.IntN.{ℤ}
use lib.ListN.{length, take}
use lib.Seq.{take_all}
use Rattle.lifting.specs.Program.{at}
use Rattle.lifting.specs.Wrap.{wrap}
use Rattle.lifting.proofs.WrapLaws.{wrap_id}
use Rattle.picture.proofs.CheckLaws.{either_false}
use Rattle.step_sizes.specs.Levels.{is_out_of_range}
use Rattle.step_sizes.proofs.Signs.{in_range}
use Rattle.bands.specs.Bands.{any_out}

-- one number more is looked at
next : (f : ℤ → ℤ) (levels : List ℤ) (i : ℕ) → i < length levels
    → any_out (map f (take i levels)) || is_out_of_range (f (at levels i)) ≡ any_out (map f (take (suc i) levels))
next f [] i h = absurd (omega arith)
next f (x ∷ levels) zero h = sym (or-false (is_out_of_range (f x)))
next f (x ∷ levels) (suc i) h =
    or_assoc (is_out_of_range (f x)) (any_out (map f (take i levels))) (is_out_of_range (f (at levels i))) ∙ ap (λ (b : Bool). is_out_of_range (f x) || b) (next f levels i (omega arith))

pub one_looked : (f : ℤ → ℤ) (levels : List ℤ) (i : ℕ) {out found : Bool} → i < length levels
    → out ≡ any_out (map f (take i levels)) → found ≡ is_out_of_range (f (at levels i)) → out || found ≡ any_out (map f (take (i + 1) levels))
one_looked f levels i h e q = rw (e, q, add-one i) (next f levels i h)

pub all_looked : (f : ℤ → ℤ) (levels : List ℤ) (i : ℕ) {out : Bool} → length levels ≤ i
    → out ≡ any_out (map f (take i levels)) → out ≡ any_out (map f levels)
all_looked f levels i h e = e ∙ ap (λ (l : List ℤ). any_out (map f l)) (take_all i levels h)

-- where no number is outside, each is inside
pub each_inside : (f : ℤ → ℤ) (levels : List ℤ) (i : ℕ) → i < length levels → any_out (map f levels) ≡ false → is_out_of_range (f (at levels i)) ≡ false
each_inside f [] i h e = absurd (omega arith)
each_inside f (x ∷ levels) zero h e = (either_false (is_out_of_range (f x)) (any_out (map f levels)) e).0
each_inside f (x ∷ levels) (suc i) h e = each_inside f levels i (omega arith) (either_false (is_out_of_range (f x)) (any_out (map f levels)) e).1

-- and reducing changes none
pub products_kept : (f : ℤ → ℤ) (levels : List ℤ) → any_out (map f levels) ≡ false → map (λ x. wrap (f x)) levels ≡ map f levels
products_kept f [] e = refl
products_kept f (x ∷ levels) e =
    let p = either_false (is_out_of_range (f x)) (any_out (map f levels)) e in
    rw (wrap_id (in_range (f x) p.0), products_kept f levels p.1)
