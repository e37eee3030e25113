-- A part of a grid filled in place: some squares hold new coefficients, and every other place what it held.
use Rattle.std.specs.Prelude.{ℕ, ◌<◌, ◌≡◌, List, length, ℤ}
use Rattle.lifting.specs.Program.{at}
use Rattle.transform.specs.Grids.{square_of, place}

-- in a grid of p squares across: the squares of P hold the coefficients f
pub record Filled (p : ℕ) (f : ℕ → ℕ → ℤ) (old : List ℤ) (P : ℕ → Type 0) (v : List ℤ) : Type 0 where
  pub len : length v ≡ length old
  pub done : (s k : ℕ) → P s → k < 16 → at v (place p s k) ≡ f s k
  pub rest : (i : ℕ) → ¬ P (square_of p i) → at v i ≡ at old i
