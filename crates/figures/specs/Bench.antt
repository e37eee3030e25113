-- The starred bench values of 01 as one table: an operator, what goes in and what comes out.
use Rattle.std.specs.Prelude.{ℕ, ◌≡◌, List, [], ◌∷◌, ◌++◌, map, length, replicate, ℤ, pos, neg_ℤ}
use Rattle.lifting.specs.Program.{Program, run}
use Rattle.figures.specs.Figures.{hadamard, odd, odd_odd, rotation, scale, post_hadamard, core}

pub record Value : Type 0 where
  pub operator : Program
  pub input : List ℤ
  pub output : List ℤ

infix 20 ◌on◌gives◌
abbrev pub ◌on◌gives◌ : Program → List ℤ → List ℤ → Value
p on v gives w = record { operator = p; input = v; output = w }

abbrev pub minus : ℕ → ℤ
minus n = neg_ℤ (pos n)

abbrev pub two : ℤ → ℤ → List ℤ
two x y = x ∷ y ∷ []

abbrev pub four : ℤ → ℤ → ℤ → ℤ → List ℤ
four x y z w = x ∷ y ∷ z ∷ w ∷ []

-- blocks of zeros but for the number x as coefficient 0, and as coefficient 1
abbrev pub first : ℤ → List ℤ
first x = x ∷ replicate 15 (pos 0)

abbrev second : ℤ → List ℤ
second x = pos 0 ∷ x ∷ replicate 14 (pos 0)

abbrev pub starred : List Value
starred =
    (hadamard (pos 0) on four (pos 4) (pos 0) (pos 0) (pos 0) gives four (pos 2) (pos 2) (pos 2) (pos 2))
    ∷ (hadamard (pos 0) on four (pos 1) (pos 0) (pos 0) (pos 0) gives four (pos 1) (pos 0) (pos 0) (pos 0))
    ∷ (hadamard (pos 0) on four (minus 1) (pos 0) (pos 0) (pos 0) gives four (pos 0) (minus 1) (minus 1) (minus 1))
    ∷ (hadamard (pos 1) on four (pos 1) (pos 0) (pos 0) (pos 0) gives four (pos 0) (pos 1) (pos 1) (pos 1))
    ∷ (hadamard (pos 1) on four (minus 1) (pos 0) (pos 0) (pos 0) gives four (minus 1) (pos 0) (pos 0) (pos 0))
    ∷ (hadamard (pos 0) on four (pos 2147483647) (pos 0) (pos 0) (pos 1)
    gives four (minus 1073741824) (minus 1073741825) (minus 1073741825) (minus 1073741824))
    ∷ (odd on four (pos 8) (pos 0) (pos 0) (pos 0) gives four (pos 6) (pos 5) (pos 2) (pos 2))
    ∷ (odd_odd on four (pos 8) (pos 0) (pos 0) (pos 0) gives four (pos 7) (minus 3) (minus 3) (pos 1))
    ∷ (rotation on two (pos 0) (pos 1) gives two (minus 1) (pos 1))
    ∷ (scale on two (pos 8) (pos 0) gives two (pos 9) (pos 5))
    ∷ (scale on two (minus 1) (pos 0) gives two (minus 2) (minus 2))
    ∷ (post_hadamard on four (pos 8) (pos 0) (pos 0) (pos 0) gives four (pos 4) (pos 0) (pos 0) (pos 4))
    ∷ (core on first (pos 16) gives replicate 16 (pos 4))
    ∷ (core on second (pos 8)
    gives four (pos 3) (pos 1) (minus 1) (minus 3) ++ four (pos 3) (pos 1) (minus 1) (minus 3)
    ++ four (pos 3) (pos 1) (minus 1) (minus 3) ++ four (pos 2) (pos 1) (minus 1) (minus 3))
    ∷ []

-- a table of n values, each of which its operator gives
pub record Hold (n : ℕ) (table : List Value) : Type 0 where
  pub count : length table ≡ n
  pub outputs : map (λ v. run v.operator v.input) table ≡ map (λ v. v.output) table

abbrev pub StarredHold : Type 0
StarredHold = Hold 14 starred
