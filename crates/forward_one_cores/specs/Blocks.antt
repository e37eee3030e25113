-- Macroblocks of level one as blocks, where they lie in two lists; and what it is to replace some of them.
use Rattle.std.specs.Prelude.{ℕ, ◌+◌, ◌*◌, ◌<◌, ◌≤◌, ◌≡◌, List, length, ℤ}

-- the first n blocks lie in two lists
pub record Room (n : ℕ) (dc low : List ℤ) : Type 0 where
  pub of-dc : n ≤ length dc
  pub of_low : 15 * n ≤ length low

-- of the blocks, the n from t on are f's, and all others what they were
pub record Replaced (t n : ℕ) (f old new : ℕ → List ℤ) : Type 0 where
  pub own : (s : ℕ) → t ≤ s → s < t + n → new s ≡ f s
  pub below : (s : ℕ) → s < t → new s ≡ old s
  pub above : (s : ℕ) → t + n ≤ s → new s ≡ old s
