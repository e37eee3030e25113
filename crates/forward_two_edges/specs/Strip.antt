-- The strip: 18 rows of 72 numbers, of which the first is the unfiltered sample of row 16 r, column 16 c of a picture. Which of its numbers are there already.
use Rattle.std.specs.Prelude.{ℕ, ◌+◌, ◌*◌, ◌≤◌, ◌<◌, ◌≡◌, List, length, ℤ}
use Rattle.lifting.specs.Program.{at, get, undo}
use Rattle.figures.specs.Figures.{four_filter}
use Rattle.transform.specs.Level.{cell, strip as line}
use Rattle.picture.specs.declared.size.Size.{Size}
use Rattle.forward_two_edges.specs.declared.place.Place.{Place}
use Rattle.forward_two_edges.specs.Unfiltered.{unfiltered}

-- the numbers of these rows and columns are there, as far as the picture has them
pub record Holds (size : Size) (samples : List ℤ) (r c top bottom left right : ℕ) (strip : List ℤ) : Type 0 where
  pub there : (y x : ℕ) → top ≤ y → y < bottom → left ≤ x → x < right → 16 * r + y < 16 * size.height.0 → 16 * c + x < 16 * size.width.0
      → at strip (72 * y + x) ≡ at (unfiltered size samples) (cell (4 * size.width.0) (16 * r + y) (16 * c + x))

-- all numbers outside these rows and columns are what they were
pub record Kept (top bottom left right : ℕ) (old new : List ℤ) : Type 0 where
  pub len : length new ≡ length old
  pub same : (y x : ℕ) → x < 72 → (top ≤ y → y < bottom → left ≤ x → x < right → ⊥) → at new (72 * y + x) ≡ at old (72 * y + x)

-- row y, column x of the strip, in the samples and in the strip
abbrev pub Stands : Size → ℕ → ℕ → ℕ → ℕ → Place → Type 0
Stands size r c y x place = (place.samples ≡ cell (4 * size.width.0) (16 * r + y) (16 * c + x)) × (place.strip ≡ 72 * y + x)

-- n numbers from place i on, each `step` after the one before, are f 0 to f (n - 1), and all others what they were
pub record Spread (i step n : ℕ) (f : ℕ → ℤ) (old new : List ℤ) : Type 0 where
  pub len : length new ≡ length old
  pub own : (k : ℕ) → k < n → at new (i + k * step) ≡ f k
  pub others : (j : ℕ) → ((k : ℕ) → k < n → j ≡ i + k * step → ⊥) → at new j ≡ at old j

-- in two columns side by side n numbers, from places i and i + 1 on, are f 0 and f 1 of 0 to n - 1, and all others what they were
pub record Columns (i n : ℕ) (f : ℕ → ℕ → ℤ) (old new : List ℤ) : Type 0 where
  pub len : length new ≡ length old
  pub own : (b k : ℕ) → b < 2 → k < n → at new (i + b + k * 72) ≡ f b k
  pub others : (j : ℕ) → ((b k : ℕ) → b < 2 → k < n → j ≡ i + b + k * 72 → ⊥) → at new j ≡ at old j

-- four numbers in a line, of which the first stands at place i, unfiltered
unfoldable pub unfiltered_at : List ℤ → ℕ → ℕ → List ℤ
unfiltered_at samples step i = undo four_filter (get (line step i) samples)
