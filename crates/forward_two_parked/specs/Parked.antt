-- Rows of the strip parked in the planes: rows 16 and 17 go to the first eight coefficients of the upper four blocks of the macroblocks below, and come back as rows 0 and 1.
use Rattle.std.specs.Prelude.{ℕ, ◌+◌, ◌*◌, ◌/◌, ◌%◌, ◌<◌, ◌≤◌, ◌≡◌, List, ℤ, length}
use Rattle.lifting.specs.Program.{at}
use Rattle.forward_two_cores.specs.Blocks.{Among}

-- the place of coefficient j of block k of the b-th macroblock in the strip, from row y on
abbrev pub place_in : ℕ → ℕ → ℕ → ℕ → ℕ
place_in y b k j = 72 * (y + j / 4) + 16 * b + 4 * k + j % 4

-- the upper blocks of macroblocks m to m + n - 1 have these numbers of the strip, and blocks of other macroblocks what they had
pub record Parked (m n : ℕ) (strip : List ℤ) (old new : ℕ → List ℤ) : Type 0 where
  pub own : (t b j : ℕ) → b < n → t / 16 ≡ m + b → t % 16 < 4 → j < 8 → at (new t) j ≡ at strip (place_in 16 b (t % 16) j)
  pub others : (t : ℕ) → (Among m (m + n) t → ⊥) → new t ≡ old t

-- rows 0 and 1 have the numbers of the upper blocks of macroblocks m to m + n - 1
pub record Fetched (m n : ℕ) (blocks : ℕ → List ℤ) (strip : List ℤ) : Type 0 where
  pub own : (b k j : ℕ) → b < n → k < 4 → j < 8 → at strip (place_in 0 b k j) ≡ at (blocks (16 * (m + b) + k)) j

-- ---- one macroblock

-- the coefficients 0 of its upper blocks
pub record ZerosParked (m b : ℕ) (strip : List ℤ) (old new : ℕ → List ℤ) : Type 0 where
  pub own : (k : ℕ) → k < 4 → at (new m) k ≡ at strip (1152 + 16 * b + 4 * k)
  pub others : (s : ℕ) → (s ≡ m → ⊥) → new s ≡ old s

-- coefficients 1 to 7 of the first n of them, in the macroblock's part of the high-pass plane, which begins at place i
pub record RestParked (i b n : ℕ) (strip old new : List ℤ) : Type 0 where
  pub len : length new ≡ length old
  pub own : (k j : ℕ) → k < n → j < 7 → at new (i + 15 * k + j) ≡ at strip (place_in 16 b k (j + 1))
  pub others : (a : ℕ) → (i ≤ a → a < i + 240 → ⊥) → at new a ≡ at old a
