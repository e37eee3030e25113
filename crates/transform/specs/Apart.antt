-- No number lies in two windows of a level's filters, so their order does not matter (01, "One level"; with the corners of 02, f).
use Rattle.std.specs.Prelude.{ℕ, ◌+◌, ◌≤◌, ◌<◌, Bool, false, ◌||◌, List, [], ◌∷◌, eqb}
use Rattle.lifting.specs.Program.{Program, end, ◌⨾◌, reorder, apply}
use Rattle.picture.specs.Numbers.{◌if◌}
use Rattle.transform.specs.Level.{filters}

abbrev pub among : List ℕ → ℕ → Bool
among [] i = false
among (p ∷ ps) i = eqb p i || among ps i

-- how many windows of a program the place i lies in: a window is the places of one use
unfoldable pub windows_at : Program → ℕ → ℕ
windows_at end i = 0
windows_at (l ⨾ p) i = windows_at p i
windows_at (reorder to back p) i = windows_at p i
windows_at (apply o s ps p) i = (1 if among ps i) + windows_at p i

-- in a grid of p by q squares, one square across or down among them
abbrev pub FiltersApart : Type 0
FiltersApart = (p q : ℕ) → 0 < p → 0 < q → (i : ℕ) → windows_at (filters p q) i ≤ 1
