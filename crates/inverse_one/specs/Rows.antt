-- Level one's grid while it is filled: the numbers that a macroblock's square gets, and the macroblocks from one to another.
use Rattle.std.specs.Prelude.{ℕ, ◌+◌, ◌*◌, ◌≤◌, ◌<◌, List, ℤ}
use Rattle.lifting.specs.Program.{at}
use Rattle.transform.specs.Grids.{coefficients}

-- macroblock m: its DC number, and then its low-pass numbers
abbrev pub plane_numbers : List ℤ → List ℤ → ℕ → ℕ → ℤ
plane_numbers dc low m = coefficients (at dc m) (λ k. at low (15 * m + k))

-- one of macroblocks m to n - 1
abbrev pub Between : ℕ → ℕ → ℕ → Type 0
Between m n s = (m ≤ s) × (s < n)
