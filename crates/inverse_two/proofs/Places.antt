-- Where blocks lie, and which of them cover numbers that are yet to be read: a block by its row and column of blocks, a sample by its row and column.
use Prim.Native.Nat.{ℕ, ◌+◌, ◌*◌, ◌/◌, ◌%◌, ◌≤◌, ◌<◌}
use mathlib.Core.Path.{◌≡◌, sym, ◌∙◌, ap, ap₂}
use mathlib.Core.Logic.Dec
use mathlib.Core.Logic.{by_cases}
use mathlib.Core.List.{List}
use native.Mathlib.Omega.{arith}
use native.Mathlib.Decide.{dec_lt, dec_le}
use native.Mathlib.Nat.{mod-lt, div-add-mod', add-mul, div-div-eq-div-mul}
use lib.Arith.{digits_div, digits_mod}
use lib.IntN.{ℤ}
use Rattle.lifting.specs.Program.{at, run}
use Rattle.figures.specs.Figures.{core}
use Rattle.picture.specs.Table.{table}
use Rattle.transform.specs.Grids.{coefficients, block_order, square_of, place}
use Rattle.lanes.proofs.Rows.{square-at}
use Rattle.inverse_levels.specs.Filled.{Filled}
use Rattle.inverse_levels.proofs.Filled.{square-not-after, filled_join, filled_same}
use Rattle.inverse_two.specs.Blocks.{block_numbers, cored, InRows, InBlocks, RowsCored, BlocksCored, FourBlocks}

module _ {W : ℕ} (wide : 0 < W) where
  row-wide : 0 < 4 * W
  row-wide = omega arith

  -- ---- four blocks side by side

  -- a place among the four squares lies in one of the four
  four-square : (y c r x i : ℕ) → c < W → r < 4 → x < 16 → i ≡ 4 * y * (4 * (4 * W)) + 16 * c + r * (4 * (4 * W)) + x → InBlocks W y (y + 1) c (c + 1) (square_of (4 * W) i)
  four-square y c r x i inside h l e = ((omega (arith, row), omega (arith, row)), (omega (arith, part), omega (arith, part)))
    where
      column : 4 * c + x / 4 < 4 * W
      column = omega arith

      there : i ≡ (4 * y + r) * (4 * (4 * W)) + (16 * c + x)
      there = rw (add-mul (4 * y) r (4 * (4 * W))) (omega arith)

      far : 16 * c + x < 4 * (4 * W)
      far = omega arith

      down : i / (4 * (4 * W)) / 4 ≡ y
      down = rw (there, digits_div (4 * y + r) far) (omega arith)

      right : i % (4 * (4 * W)) / 4 ≡ 4 * c + x / 4
      right = rw (there, digits_mod (4 * y + r) far) (omega arith)

      is : square_of (4 * W) i ≡ y * (4 * W) + (4 * c + x / 4)
      is = rw (down, right)

      row : square_of (4 * W) i / (4 * W) ≡ y
      row = rw is (digits_div y column)

      part : square_of (4 * W) i % (4 * W) / 4 ≡ c
      part = rw (is, digits_mod y column) (omega arith)

  -- what the kernel does is to fill the four blocks with their core transforms
  pub four_filled : (y c first b from : ℕ) {old high v : List ℤ} → c < W → first ≡ 4 * y * (4 * (4 * W)) + 16 * c → b ≡ y * (4 * W) + 4 * c → from ≡ 240 * (y / 4 * W + c) + 60 * (y % 4)
      → FourBlocks old high (4 * (4 * W)) first b from v → BlocksCored W high old y (y + 1) c (c + 1) v
  four_filled y c first b from {old} {high} {v} inside there number order r = record {
    len = r.len;
    done = done;
    rest = λ i n. r.rest i (λ m x h l e. n (four-square y c m x i inside h l (omega (arith, e, there))));
  }
    where
      done : (s k : ℕ) → InBlocks W y (y + 1) c (c + 1) s → k < 16 → at v (place (4 * W) s k) ≡ cored (block_numbers W old high) s k
      done s k h m =
          ap (at v) place_is
          ∙ sym (square-at (4 * (4 * W)) (first + 4 * l) v k m)
          ∙ ap (λ z. at z k) (r.own l (omega arith))
          ∙ ap₂ (λ (a : ℕ) (n : ℕ). at (run core (table 16 (coefficients (at old a) (λ j. at high (n + j))))) k) number_is order_is
        where
          l : ℕ
          l = s % (4 * W) % 4

          row : s / (4 * W) ≡ y
          row = omega (arith, h)

          part : s % (4 * W) / 4 ≡ c
          part = omega (arith, h)

          column : s % (4 * W) ≡ 4 * c + l
          column = omega (arith, part)

          place_is : place (4 * W) s k ≡ first + 4 * l + k / 4 * (4 * (4 * W)) + k % 4
          place_is = rw (row, column, add-mul (4 * y) (k / 4) (4 * (4 * W))) (omega (arith, there))

          number_is : b + l ≡ s
          number_is = omega (arith, number, column, rw row at (div-add-mod' s (4 * W)))

          order_is : from + 15 * l ≡ 15 * block_order W s
          order_is = rw (row, part) (omega (arith, order))

  -- ---- in which row of blocks the number of block b lies, as a sample

  square-row : (b : ℕ) → square_of (4 * W) b / (4 * W) ≡ b / (4 * W) / 4 / 4
  square-row b = digits_div (b / (4 * (4 * W)) / 4) column ∙ ap (λ (n : ℕ). n / 4) (ap (λ (m : ℕ). b / m) wide_is ∙ sym (div-div-eq-div-mul b (4 * W) 4))
    where
      column : b % (4 * (4 * W)) / 4 < 4 * W
      column = omega (arith, mod-lt b {m = 4 * (4 * W)} (omega arith))

      wide_is : 4 * (4 * W) ≡ 4 * W * 4
      wide_is = omega arith

  -- the number of a block that is filled later is still the old one
  later : {old v : List ℤ} (high : List ℤ) {f : ℕ → ℕ → ℤ} {P : ℕ → Type 0} → Filled (4 * W) f old P v → (b : ℕ) → ¬ P (square_of (4 * W) b) → (k : ℕ) → cored (block_numbers W v high) b k ≡ cored (block_numbers W old high) b k
  later high r b n k = ap (λ x. cored (λ t. coefficients x (λ i. at high (15 * block_order W t + i))) b k) (r.rest b n)

  -- ---- parts of the grid joined

  -- no number of the blocks in rows y to e and columns c to d lies where those of columns n to k do
  abbrev Free : ℕ → ℕ → ℕ → ℕ → ℕ → ℕ → Type 0
  Free y e c d n k = (s : ℕ) → InBlocks W y e c d s → ¬ InBlocks W y e n k (square_of (4 * W) s)

  decided : (y e c d b : ℕ) → Dec (InBlocks W y e c d b)
  decided y e c d b = Dec.and (Dec.and (dec_le _ _) (dec_lt _ _)) (Dec.and (dec_le _ _) (dec_lt _ _))

  pub blocks-all : (high : List ℤ) (y e : ℕ) {old v : List ℤ} → BlocksCored W high old y e 0 W v → RowsCored W high old y e v
  blocks-all high y e = filled_same (InRows W y e) (λ b h. (h, (omega arith, omega (arith, mod-lt b {m = 4 * W} row-wide)))) (λ b h. h.0)

  -- rows y to m, above rows n to e, where m is n
  pub above : (high : List ℤ) (y m n e c d : ℕ) {old v u : List ℤ} → y ≤ m → m ≤ e → m ≡ n → BlocksCored W high old n e c d v → BlocksCored W high v y m c d u → BlocksCored W high old y e c d u
  above high y m n e c d l h same r t =
      filled_join row-wide (InBlocks W y e c d) (decided y m c d)
      (λ s i o. by_cases (dec_lt (s / (4 * W)) m) (λ z. absurd (o ((i.0.0, z), i.1))) (λ z. ((omega (arith, z, same), i.0.1), i.1)))
      (λ s i. ((omega (arith, i, same), i.0.1), i.1)) (λ s i. ((i.0.0, omega (arith, i)), i.1)) (λ s k i z. later high r s (λ p. absurd (omega (arith, i, p, same, square-row s))) k) r t

  -- columns c to m, left of columns n to d, where m is n
  pub left-of : (high : List ℤ) (y e c m n d : ℕ) {old v u : List ℤ} → c ≤ m → m ≤ d → m ≡ n → Free y e c m n d → BlocksCored W high old y e n d v → BlocksCored W high v y e c m u → BlocksCored W high old y e c d u
  left-of high y e c m n d l h same free r t =
      filled_join row-wide (InBlocks W y e c d) (decided y e c m)
      (λ s i o. by_cases (dec_lt (s % (4 * W) / 4) m) (λ z. absurd (o (i.0, (i.1.0, z)))) (λ z. (i.0, (omega (arith, z, same), i.1.1))))
      (λ s i. (i.0, (omega (arith, i, same), i.1.1))) (λ s i. (i.0, (i.1.0, omega (arith, i)))) (λ s k i z. later high r s (free s i) k) r t

  -- the numbers of rows that are not the topmost four lie above them
  pub free_below : (y e c m n d : ℕ) → e ≤ 16 * y → Free y e c m n d
  free_below y e c m n d h s i p = omega (arith, i, p, square-row s)

  -- in one row of blocks, none lies after its block
  pub free_row : (y c m n d : ℕ) → m ≤ n → Free y (y + 1) c m n d
  free_row y c m n d h s i p =
      let t = square_of (4 * W) s in
      let a : s / (4 * W) ≡ y = omega (arith, i) in
      let b : t / (4 * W) ≡ y = omega (arith, p) in
      omega (arith, i, p, square-not-after row-wide s, rw a at (div-add-mod' s (4 * W)), rw b at (div-add-mod' t (4 * W)))
