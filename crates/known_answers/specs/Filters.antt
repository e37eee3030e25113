-- In a grid of 2 by 2 squares, 8 by 8 places, every place lies in one window of the filters: one square in the middle, four fours each along rows and columns, four corners (01, "One level"; 02, f).
use Rattle.std.specs.Prelude.{ℕ, zero, suc, ◌≡◌, List, [], ◌∷◌, map, replicate}
use Rattle.transform.specs.Apart.{windows_at}
use Rattle.transform.specs.Level.{filters}

-- n - 1 to 0
abbrev pub below : ℕ → List ℕ
below zero = []
below (suc n) = n ∷ below n

abbrev pub OneWindowEach : Type 0
OneWindowEach = map (windows_at (filters 2 2)) (below 64) ≡ replicate 64 1
