-- A row of decimals, one number at a time: how long it is, and how far it is written.
use Rattle.std.proofs.Common.{◌≡◌, ℕ, zero, suc, ◌+◌, ◌<◌, ◌≤◌, List, [], ◌∷◌, length, get_or, drop, ℤ, pos, refl, add-one, false, nat_lt, arith, length-append, drop-cons, leb}
use lib.ListN.{drop_of_length-le}
use borrow.Author.Tests.{le-leb, lt-leb, lt-ltb}
use Rattle.decimal.specs.Text.{decimal, row}

-- the bytes of the numbers, each with the byte behind it
abbrev pub bytes : List ℤ → ℕ
bytes [] = 0
bytes (x ∷ xs) = length (decimal x) + 1 + bytes xs

pub bytes_at : (xs : List ℤ) (i : ℕ) → i < length xs → bytes (drop i xs) ≡ length (decimal (get_or xs i (pos 0))) + 1 + bytes (drop (i + 1) xs)
bytes_at xs i h = rw (add-one i, drop-cons xs i (pos 0) h)

pub bytes_end : (xs : List ℤ) (i : ℕ) → length xs ≤ i → bytes (drop i xs) ≡ 0
bytes_end xs i h = rw (drop_of_length-le xs h)

-- a row has these bytes; an empty one has the newline
pub row_bytes : (xs : List ℤ) → 0 < length xs → length (row xs) ≡ bytes xs
unfolding row
row_bytes [] h = absurd (omega arith)
row_bytes (x ∷ []) h = simp length-append (omega arith)
row_bytes (x ∷ y ∷ ys) h = simp length-append (omega (arith, row_bytes (y ∷ ys) (omega arith)))

pub row_empty : (xs : List ℤ) → length xs ≤ 0 → length (row xs) ≡ 1
unfolding row
row_empty [] h = refl
row_empty (x ∷ xs) h = absurd (omega arith)

-- with room for the bytes, and for one at least, the row fits
pub row_within : (xs : List ℤ) (room : ℕ) → bytes xs ≤ room → nat_lt 0 room ≡ leb (length (row xs)) room
row_within [] room h = rw (row_empty [] (omega arith)) (one room)
  where
    one : (room : ℕ) → nat_lt 0 room ≡ leb 1 room
    one zero = refl
    one (suc n) = refl
row_within (x ∷ xs) room h = rw (row_bytes (x ∷ xs) (omega arith), le-leb (bytes (x ∷ xs)) room h) (lt-ltb 0 room (omega arith))

pub row_over : (xs : List ℤ) (room : ℕ) → room < bytes xs → leb (length (row xs)) room ≡ false
row_over [] room h = absurd (omega arith)
row_over (x ∷ xs) room h = rw (row_bytes (x ∷ xs) (omega arith)) (lt-leb (bytes (x ∷ xs)) room h)
