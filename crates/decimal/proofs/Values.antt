-- Some texts of the definitions, as one table: each computes to what is quoted beside it.
use Prim.Native.Nat.{ℕ}
use Prim.Native.String.{String}
use mathlib.Core.Path.{◌≡◌, refl}
use mathlib.Core.List.{List, [], ◌∷◌, map}
use lib.IntN.{ℤ, pos, neg_ℤ}
use Rattle.decimal.specs.Text.{ascii, digits_in, digits, decimal, row, refused_line}

abbrev minus : ℕ → ℤ
minus n = neg_ℤ (pos n)

abbrev table : List (List ℕ × String)
table =
    (decimal (minus 2147483648), "-2147483648")
    ∷ (decimal (minus 10), "-10")
    ∷ (decimal (minus 1), "-1")
    ∷ (decimal (pos 0), "0")
    ∷ (decimal (pos 9), "9")
    ∷ (decimal (pos 10), "10")
    ∷ (decimal (pos 100), "100")
    ∷ (decimal (pos 2147483647), "2147483647")
    ∷ (row [], "\n")
    ∷ (row (pos 4 ∷ []), "4\n")
    ∷ (row (pos 4 ∷ minus 1 ∷ pos 0 ∷ []), "4 -1 0\n")
    ∷ (refused_line 9, "refused 9\n")
    ∷ (refused_line 12, "refused 12\n")
    ∷ []

pub values : map (λ e. e.0) table ≡ map (λ e. ascii e.1) table
unfolding digits_in digits decimal row refused_line
values = refl
