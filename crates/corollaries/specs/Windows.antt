-- What a sample depends on, in the figures of 01, "Windows of influence" (demand 3, second half).
use Rattle.std.specs.Prelude.{ℕ, ◌+◌, ◌*◌, ◌/◌, ◌%◌, ◌≤◌, ◌<◌, ◌≡◌}
use Rattle.lifting.specs.Program.{at}
use Rattle.picture.specs.Planes.{Planes}
use Rattle.transform.specs.Transform.{inverse}
use Rattle.corollaries.specs.Sizes.{of}

-- row y and column x lie in a square of this side at row r and column c, or at most `beyond` outside it
pub record Reached (beyond side r c y x : ℕ) : Type 0 where
  pub below : r ≤ y + beyond
  pub above : y < r + side + beyond
  pub right : c ≤ x + beyond
  pub left : x < c + side + beyond

-- the block in row R and column C of all blocks has the same 15 high-pass numbers in both: it is block R mod 4 × 4 + C mod 4 of the macroblock in row R div 4 and column C div 4
abbrev pub SameHigh : ℕ → Planes → Planes → ℕ → ℕ → Type 0
SameHigh W s t R C =
    (k : ℕ) → k < 15
    → at s.high (15 * (16 * (R / 4 * W + C / 4) + (R % 4 * 4 + C % 4)) + k) ≡ at t.high (15 * (16 * (R / 4 * W + C / 4) + (R % 4 * 4 + C % 4)) + k)

-- the macroblock in row R and column C has the same DC number and the same 15 low-pass numbers in both
abbrev pub SameLow : ℕ → Planes → Planes → ℕ → ℕ → Type 0
SameLow W s t R C =
    (at s.dc (R * W + C) ≡ at t.dc (R * W + C)) × ((k : ℕ) → k < 15 → at s.low (15 * (R * W + C) + k) ≡ at t.low (15 * (R * W + C) + k))

-- two sets of planes give the same sample where every block and every macroblock that reaches it is the same in both
abbrev pub ReachOf : ℕ → ℕ → ℕ → Type 0
ReachOf mode block macroblock =
    (W H : ℕ) → 1 ≤ W → W ≤ 525 → 1 ≤ H → H ≤ 413 → (s t : Planes) (y x : ℕ) → x < 16 * W
    → ((R C : ℕ) → R < 4 * H → C < 4 * W → Reached block 4 (4 * R) (4 * C) y x → SameHigh W s t R C)
    → ((R C : ℕ) → R < H → C < W → Reached macroblock 16 (16 * R) (16 * C) y x → SameLow W s t R C)
    → at (inverse mode (of W H) s) (y * (16 * W) + x) ≡ at (inverse mode (of W H) t) (y * (16 * W) + x)

-- mode 0: nothing beyond; mode 1: 2 samples; mode 2: 2 for a block and 10 for a macroblock
abbrev pub SamplesDependOn : Type 0
SamplesDependOn = ReachOf 0 0 0 × ReachOf 1 2 2 × ReachOf 2 2 10
