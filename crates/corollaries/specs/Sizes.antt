-- Every mode and size that 01 permits, and numbers of 32 bits, in figures.
use Rattle.std.specs.Prelude.{ℕ, ◌≤◌, ◌<◌, ◌≡◌, List, ℤ, pos, negsuc, length}
use Rattle.lifting.specs.Program.{at}
use Rattle.picture.specs.declared.size.Size.{Size}

-- W by H macroblocks
abbrev pub of : ℕ → ℕ → Size
of W H = record { width = record { 0 = W }; height = record { 0 = H } }

-- modes 0, 1 and 2; W from 1 to 525 and H from 1 to 413
abbrev pub EverySize : (ℕ → ℕ → ℕ → Type 0) → Type 0
EverySize P = (mode W H : ℕ) → mode ≤ 2 → 1 ≤ W → W ≤ 525 → 1 ≤ H → H ≤ 413 → P mode W H

-- from -2147483648 to 2147483647; `negsuc n` is -(n + 1)
abbrev pub InRange : ℤ → Type 0
InRange (pos n) = n ≤ 2147483647
InRange (negsuc n) = n ≤ 2147483647

-- n numbers of 32 bits
pub record Numbers (n : ℕ) (v : List ℤ) : Type 0 where
  pub count : length v ≡ n
  pub in_range : (i : ℕ) → i < n → InRange (at v i)
