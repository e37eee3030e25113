-- How much room is always enough: a number of 32 bits has at most ten digits, so twelve bytes for each number hold a row.
use Rattle.std.proofs.Common.{ℕ, suc, ◌*◌, ◌<◌, ◌≤◌, List, [], ◌∷◌, length, get_or, ℤ, pos, negsuc, arith, length-append}
use lib.Signed.{mag}
use Rattle.decimal.specs.Text.{decimal, row}
use Rattle.decimal.proofs.Digits.{digits-at-most}

decimal-at-most : (x : ℤ) → mag x < 2147483648 → length (decimal x) ≤ 11
unfolding decimal
decimal-at-most (pos n) h = omega (arith, digits-at-most n (omega arith))
decimal-at-most (negsuc n) h = simp length-append (omega (arith, digits-at-most (suc n) (omega arith)))

-- the numbers fit as those of a slice do
pub row-at-most : (x : ℤ) (xs : List ℤ) → ((i : ℕ) → mag (get_or (x ∷ xs) i (pos 0)) < 2147483648) → length (row (x ∷ xs)) ≤ 12 * length (x ∷ xs)
unfolding row
row-at-most x [] h = simp length-append (omega (arith, decimal-at-most x (h 0)))
row-at-most x (y ∷ ys) h =
    simp length-append (omega (arith, decimal-at-most x (h 0), row-at-most y ys (λ i. h (suc i))))
