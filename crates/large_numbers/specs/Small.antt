-- Numbers of a row that are not large, and that are of 32 bits.
use Rattle.std.specs.Prelude.{ℕ, ◌≤◌, ◌<◌, List, ℤ, nat_abs}
use Rattle.std.proofs.Common.{SFits}
use Rattle.std.specs.Int.{w32}
use Rattle.lifting.specs.Program.{at}

-- from place a up to place b, no number is above B in magnitude
abbrev pub AtMost : ℕ → List ℤ → ℕ → ℕ → Type 0
AtMost B v a b = (i : ℕ) → a ≤ i → i < b → nat_abs (at v i) ≤ B

-- none is above 2^25
abbrev pub Small : List ℤ → ℕ → ℕ → Type 0
Small v a b = AtMost 33554432 v a b

-- from place a up to place b, each number is in the signed 32-bit range
abbrev pub Fit : List ℤ → ℕ → ℕ → Type 0
Fit v a b = (i : ℕ) → a ≤ i → i < b → SFits w32 (at v i)
