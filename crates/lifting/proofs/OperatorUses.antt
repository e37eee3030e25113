-- Uses add up: those of two programs by induction on the first, and those of n programs with k uses each by induction on n. Small programs are computed.
use Prim.Native.Nat.{ℕ, zero, suc, ◌+◌, ◌*◌}
use mathlib.Core.Path.{◌≡◌, refl}
use mathlib.Core.List.{List, [], ◌∷◌, map}
use native.Mathlib.Omega.{arith}
use native.Mathlib.Nat.{suc-mul}
use Rattle.lifting.specs.Program.{Operator, Hadamard, Odd, OddOdd, Rotation, Scale, PostHadamard, PostOddOdd, Core, FourFilter, SquareFilter, Program, end, ◌⨾◌, reorder, apply, ◌then◌, each}
use Rattle.lifting.specs.OperatorUses.{uses}

module _ (o : Operator) where
  pub uses_then : (p q : Program) → uses o (p then q) ≡ uses o p + uses o q
  unfolding uses ◌then◌
  uses_then end q = omega arith
  uses_then (l ⨾ p) q = uses_then p q
  uses_then (reorder to back p) q = uses_then p q
  uses_then (apply used s ps p) q = omega (arith, uses_then p q)

  pub uses-each : (k n : ℕ) (f : ℕ → Program) → ((i : ℕ) → uses o (f i) ≡ k) → uses o (each n f) ≡ n * k
  unfolding uses each
  uses-each k zero f h = omega arith
  uses-each k (suc n) f h = omega (arith, uses_then (each n f) (f n), uses-each k n f h, h n, suc-mul n k)

-- ---- small programs

abbrev operators : List Operator
operators = Hadamard ∷ Odd ∷ OddOdd ∷ Rotation ∷ Scale ∷ PostHadamard ∷ PostOddOdd ∷ Core ∷ FourFilter ∷ SquareFilter ∷ []

-- one use of each, of programs that do nothing
abbrev once : List Operator → Program
once [] = end
once (o ∷ os) = apply o end [] (once os)

pub told_apart : map (λ o. uses o (once operators)) operators ≡ map (λ o. 1) operators
unfolding uses
told_apart = refl

-- Odd inside a core, and in it another core
pub at_any_depth : map (λ o. uses o (apply Core (apply Odd (apply Core end [] end) [] end) [] (apply Scale end [] end))) (Core ∷ Odd ∷ Scale ∷ Hadamard ∷ []) ≡ 2 ∷ 1 ∷ 1 ∷ 0 ∷ []
unfolding uses
at_any_depth = refl
