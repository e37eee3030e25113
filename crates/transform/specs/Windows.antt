-- Windows of influence: the samples that a block's high-pass numbers, and a macroblock's DC and low-pass numbers, can reach (01, "Windows of influence").
use Rattle.std.specs.Prelude.{ℕ, zero, suc, ◌+◌, ◌*◌, ◌/◌, ◌%◌, ◌≤◌, ◌<◌, ◌≡◌}
use Rattle.lifting.specs.Program.{at}
use Rattle.picture.specs.declared.size.Size.{Size}
use Rattle.picture.specs.Sizes.{macroblocks}
use Rattle.picture.specs.Planes.{Planes}
use Rattle.transform.specs.Grids.{block_order}

-- x lies among `count` places from `first` on, or at most `margin` before or after them
pub record Near (margin first count x : ℕ) : Type 0 where
  pub low : first ≤ x + margin
  pub high : x < first + count + margin

-- row y and column x lie in the square of `side` rows and columns that begins at row r and column c, or within `margin` of it
pub record Window (margin side r c y x : ℕ) : Type 0 where
  pub row : Near margin r side y
  pub column : Near margin c side x

-- high-pass numbers of one block: its own 4 x 4 samples; modes 1 and 2 also 2 samples beyond on each side
abbrev pub high_margin : ℕ → ℕ
high_margin zero = 0
high_margin (suc mode) = 2

-- DC and low-pass of one macroblock: its own 16 x 16; mode 1 also 2 beyond on each side; mode 2 also 10 beyond
abbrev pub low_margin : ℕ → ℕ
low_margin zero = 0
low_margin (suc zero) = 2
low_margin (suc (suc mode)) = 10

-- block b of the picture, in raster order, and macroblock m: the samples that they can reach
abbrev pub BlockWindow : ℕ → ℕ → ℕ → ℕ → ℕ → Type 0
BlockWindow mode W b y x = Window (high_margin mode) 4 (4 * (b / (4 * W))) (4 * (b % (4 * W))) y x

abbrev pub MacroblockWindow : ℕ → ℕ → ℕ → ℕ → ℕ → Type 0
MacroblockWindow mode W m y x = Window (low_margin mode) 16 (16 * (m / W)) (16 * (m % W)) y x

-- two sets of planes are alike in a block if its 15 high-pass numbers are, and in a macroblock if its DC and its 15 low-pass numbers are
abbrev pub AlikeInBlock : ℕ → Planes → Planes → ℕ → Type 0
AlikeInBlock W s t b = (k : ℕ) → k < 15 → at s.high (15 * block_order W b + k) ≡ at t.high (15 * block_order W b + k)

abbrev pub AlikeInMacroblock : Planes → Planes → ℕ → Type 0
AlikeInMacroblock s t m = (at s.dc m ≡ at t.dc m) × ((k : ℕ) → k < 15 → at s.low (15 * m + k) ≡ at t.low (15 * m + k))

-- the sample at row y, column x lies in no window of a block or a macroblock in which they differ
pub record InNoWindow (mode : ℕ) (size : Size) (s t : Planes) (y x : ℕ) : Type 0 where
  pub blocks : (b : ℕ) → b < 16 * macroblocks size → ¬ AlikeInBlock size.width.0 s t b → ¬ BlockWindow mode size.width.0 b y x
  pub macroblocks : (m : ℕ) → m < macroblocks size → ¬ AlikeInMacroblock s t m → ¬ MacroblockWindow mode size.width.0 m y x
