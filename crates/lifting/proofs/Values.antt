-- What the steps of a line give at the ends of the range and below zero, computed: sums, differences and multiples of 3 wrap, and >> rounds down.
use Prim.Native.Nat.{ℕ}
use mathlib.Core.Path.{◌≡◌, refl}
use mathlib.Core.List.{[], ◌∷◌, map}
use lib.IntN.{ℤ, pos, neg_ℤ}
use Rattle.lifting.specs.Wrap.{wrap}
use Rattle.lifting.specs.Program.{var, ◌⊕◌, ◌⊖◌, 3×, ◌≫◌, value, value_by}

abbrev minus : ℕ → ℤ
minus n = neg_ℤ (pos n)

pub steps_give : map (λ e. value e (pos 2147483647 ∷ minus 5 ∷ []))
    ((var 0 ⊕ pos 1) ∷ (var 0 ⊖ var 1) ∷ 3× (var 0) ∷ (var 1 ≫ 1) ∷ (var 1 ≫ 3) ∷ (var 0 ≫ 1) ∷ [])
    ≡ minus 2147483648 ∷ minus 2147483644 ∷ pos 2147483645 ∷ minus 3 ∷ minus 1 ∷ pos 1073741823 ∷ []
unfolding wrap value_by
steps_give = refl
