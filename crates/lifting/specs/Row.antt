-- Rows of 32-bit numbers: what lifting programs work on.
use Rattle.std.specs.Prelude.{ℕ, ◌≡◌, List, length, ℤ}
use Rattle.std.proofs.Common.{SFits}
use Rattle.std.specs.Int.{w32}
use Rattle.lifting.specs.Program.{at}

-- n numbers, each in the signed 32-bit range (a place past the end reads as 0, which is in it)
pub record Row (n : ℕ) (v : List ℤ) : Type 0 where
  pub len : length v ≡ n
  pub fit : (i : ℕ) → SFits w32 (at v i)
