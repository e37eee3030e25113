-- Where the figures wrap and where they do not, at single values: a sum, an expression, a negation, a use; run and undone.
use Prim.Native.Nat.{ℕ}
use mathlib.Core.Path.{◌≡◌, refl}
use mathlib.Core.Bool.{Bool, true, false}
use mathlib.Core.List.{List, [], ◌∷◌}
use lib.ListN.{replicate}
use lib.IntN.{ℤ, pos, negsuc, neg_ℤ}
use Rattle.lifting.specs.Wrap.{wrap}
use Rattle.lifting.specs.Program.{back, get, put, value_by, line_by, run_by, undo_by}
use Rattle.lifting.specs.Wraps.{changes, value_wraps, line_wraps, wraps, undo_wraps}
use Rattle.figures.specs.Figures.{hadamard, odd, odd_odd, core, core_stages, rotation, scale}

abbrev most : ℤ
most = pos 2147483647

abbrev least : ℤ
least = negsuc 2147483647

-- n with these signs
abbrev signed : List Bool → ℕ → List ℤ
signed [] n = []
signed (true ∷ b) n = pos n ∷ signed b n
signed (false ∷ b) n = neg_ℤ (pos n) ∷ signed b n

-- the signs with which the core transform's sums are largest, and those with which its undoing's are
abbrev signs : List Bool
signs = true ∷ true ∷ true ∷ true ∷ true ∷ true ∷ false ∷ true ∷ true ∷ true ∷ true ∷ true ∷ false ∷ true ∷ false ∷ true ∷ []

abbrev undone_signs : List Bool
undone_signs = true ∷ false ∷ true ∷ false ∷ false ∷ false ∷ true ∷ true ∷ false ∷ false ∷ true ∷ true ∷ true ∷ false ∷ true ∷ false ∷ []

pub figures-wrap :
    (wraps (hadamard (pos 0)) (most ∷ pos 0 ∷ pos 0 ∷ pos 1 ∷ []) ≡ true)
    × (wraps (hadamard (pos 0)) (most ∷ pos 0 ∷ pos 0 ∷ pos 0 ∷ []) ≡ false)
    × (wraps rotation (pos 0 ∷ most ∷ []) ≡ true)
    × (wraps scale (pos 0 ∷ pos 715827882 ∷ []) ≡ false)
    × (wraps scale (pos 0 ∷ least ∷ []) ≡ true)
    × (undo_wraps odd_odd (pos 0 ∷ least ∷ pos 0 ∷ pos 0 ∷ []) ≡ true)
    × (undo_wraps (hadamard (pos 0)) (pos 4 ∷ pos 0 ∷ pos 0 ∷ pos 0 ∷ []) ≡ false)
    × (wraps core (most ∷ replicate 15 (pos 0)) ≡ true)
    × (wraps core (pos 2147483646 ∷ replicate 15 (pos 0)) ≡ false)
    × (wraps core (signed signs 260301047) ≡ false)
    × (wraps core (signed signs 260301048) ≡ true)
    × (undo_wraps core (signed undone_signs 130150523) ≡ false)
    × (undo_wraps core (signed undone_signs 130150524) ≡ true)
unfolding wrap run_by undo_by back line_by value_by get put changes value_wraps line_wraps wraps undo_wraps hadamard odd odd_odd core core_stages rotation scale
figures-wrap = (refl, refl, refl, refl, refl, refl, refl, refl, refl, refl, refl, refl, refl)
