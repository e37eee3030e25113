-- From the strip to the planes: a block's square in the strip is its square in the unfiltered samples, so its core undone is the block; and what a group of macroblocks adds.
use Prim.Native.Nat.{ℕ, ◌+◌, ◌-◌, ◌*◌, ◌/◌, ◌%◌, ◌≤◌, ◌<◌}
use mathlib.Core.Path.{◌≡◌, refl, sym, ◌∙◌, ap, ap₂}
use mathlib.Core.Logic.{by_cases}
use mathlib.Core.List.{List}
use native.Mathlib.Omega.{arith}
use native.Mathlib.Decide.{dec_lt}
use native.Mathlib.Nat.{add-mul, mul-le-mul_right}
use lib.Arith.{digits_div, digits_mod}
use lib.ListN.{length}
use lib.IntN.{ℤ}
use Rattle.lifting.specs.Program.{at, get, undo}
use Rattle.figures.specs.Figures.{core}
use Rattle.transform.specs.Level.{cell, square}
use Rattle.transform.specs.Grids.{block_at}
use Rattle.picture.specs.Sizes.{macroblocks}
use Rattle.picture.specs.Planes.{Lengths, planes}
use Rattle.picture.specs.declared.size.Size.{Size}
use Rattle.picture.proofs.Table.{same_lists}
use Rattle.lanes.proofs.Rows.{square-at}
use Rattle.grid.proofs.Rows.{row_inside}
use Rattle.forward_kernel.specs.Placed.{undone_at}
use Rattle.forward_two_cores.specs.declared.cells.Cells.{Cells}
use Rattle.forward_two_cores.specs.Blocks.{square_in, undone_in, Among}
use Rattle.forward_two_edges.specs.Unfiltered.{unfiltered}
use Rattle.forward_two_edges.specs.Strip.{Holds, Kept}
use Rattle.forward_two_edges.proofs.Strips.{holds_kept, holds_under, holds_as}
use Rattle.forward_two_parked.specs.Parked.{place_in, Fetched}
use Rattle.forward_two.specs.Strips.{Carried, Through, Lowered}

length_sixteen : (w i : ℕ) (v : List ℤ) → length (get (square w i) v) ≡ 16
unfolding get square
length_sixteen w i v = refl

-- number j of block t's square
pub square_in_at : {W : ℕ} → 0 < W → (r c : ℕ) → c < W → (u : List ℤ) (t j : ℕ) → t / 16 ≡ r * W + c → j < 16
    → at (square_in W u t) j ≡ at u (cell (4 * W) (16 * r + (4 * (t % 16 / 4) + j / 4)) (16 * c + (4 * (t % 16 % 4) + j % 4)))
unfolding square_in
square_in_at {W} wide r c beside u t j e h =
    let k = t % 16 in
    let row : t / 16 / W ≡ r = rw e (digits_div r beside) in
    let column : t / 16 % W ≡ c = rw e (digits_mod r beside) in
    let place : block_at W t ≡ (4 * r + k / 4) * (4 * W) + (4 * c + k % 4) = ap₂ (λ (a b : ℕ). (4 * a + k / 4) * (4 * W) + (4 * b + k % 4)) row column in
    let low : 4 * c + k % 4 < 4 * W = omega arith in
    rw (place, digits_div (4 * r + k / 4) low, digits_mod (4 * r + k / 4) low) (square-at (4 * (4 * W)) _ u j h ∙ ap (at u) (omega arith))

length_in : (W : ℕ) (u : List ℤ) (t : ℕ) → length (square_in W u t) ≡ 16
unfolding square_in
length_in W u t = length_sixteen _ _ u

-- column x of row y as a block's coefficient
strip-place : (y x : ℕ) → 72 * y + x ≡ place_in 0 (x / 16) (x % 16 / 4) (4 * y + x % 4)
strip-place y x =
    let q : (4 * y + x % 4) / 4 ≡ y = omega arith in
    let p : (4 * y + x % 4) % 4 ≡ x % 4 = omega arith in
    rw (q, p) (omega arith)

block-place : (c y x k : ℕ) → k ≡ x % 16 / 4 → (4 * (k / 4) + (4 * y + x % 4) / 4 ≡ y) × (16 * (c + x / 16) + (4 * (k % 4) + (4 * y + x % 4) % 4) ≡ 16 * c + x)
block-place c y x k e =
    let q : (4 * y + x % 4) / 4 ≡ y = omega arith in
    let p : (4 * y + x % 4) % 4 ≡ x % 4 = omega arith in
    let f : k / 4 ≡ 0 = omega arith in
    let g : k % 4 ≡ k = omega arith in
    (rw (q, f) (omega arith), rw (p, g) (omega arith))

module _ (size : Size) (samples : List ℤ) (wide : 0 < size.width.0) (r c n : ℕ) (below : r < size.height.0) (most : c + n ≤ size.width.0) where
  abbrev W : ℕ
  W = size.width.0

  abbrev H : ℕ
  H = size.height.0

  abbrev U : List ℤ
  U = unfiltered size samples

  -- ---- the cores

  pub strip-square : {strip : List ℤ} → Holds size samples r c 0 18 0 (16 * n) strip → (t b : ℕ) → b < n → t / 16 ≡ r * W + c + b → undone_in 72 (16 * b) strip (t % 16) ≡ undo core (square_in W U t)
  unfolding undone_at
  strip-square {strip} d t b h e =
      let k = t % 16 in
      ap (undo core) (same_lists 16 _ _ (length_sixteen 72 _ strip) (length_in W U t)
      (λ j l.
      square-at 72 (16 * b + 4 * (k / 4) * 72 + 4 * (k % 4)) strip j l
      ∙ ap (at strip) (omega arith) ∙ d.there (4 * (k / 4) + j / 4) (16 * b + (4 * (k % 4) + j % 4)) (omega arith) (omega arith) (omega arith) (omega arith) (omega arith) (omega arith)
      ∙ ap (λ (x : ℕ). at U (cell (4 * W) (16 * r + (4 * (k / 4) + j / 4)) x)) (omega arith)
      ∙ sym (square_in_at wide r (c + b) (omega arith) U t j (omega arith) l)))

  -- ---- the rows above

  pub rows_fetched : (blocks : ℕ → List ℤ) (m : ℕ) {old new : List ℤ} → m ≡ r * W + c → 0 < r → n ≤ 4 → Through size samples (r * W + c) blocks → Fetched m n blocks new → Kept 0 2 0 (16 * n) old new
      → Holds size samples r c 2 18 0 (16 * n + 2) old → Holds size samples r c 0 18 0 (16 * n) new × Holds size samples r c 2 18 0 (16 * n + 2) new
  rows_fetched blocks m {old} {new} place lower few through f kept d =
      let rest = holds_kept r c 2 18 0 (16 * n + 2) 0 2 0 (16 * n) (omega arith) (λ y x a b e g h i k l. absurd (omega arith)) d kept in
      (holds_under r c 0 2 18 0 (16 * n) (record { there = above }) (holds_as r c 2 18 0 (16 * n) (omega arith) (omega arith) (omega arith) (omega arith) rest), rest)
    where
      row : W ≤ r * W
      row = omega (arith, mul-le-mul_right W lower)

      inside : (b : ℕ) → b < n → r * W + c + b < W * H
      inside b h = omega (arith, row_inside r H W below)

      here : (t j b k : ℕ) → t / 16 ≡ r * W + c + b → t % 16 ≡ k → k < 4 → b < n → j < 8 → at (blocks t) j ≡ at (square_in W U t) j
      here t j b k e upper l h g = through.parked t j (omega arith) (omega arith) (omega (arith, row)) (omega (arith, inside b h)) (omega arith) g

      above : (y x : ℕ) → 0 ≤ y → y < 2 → 0 ≤ x → x < 16 * n → 16 * r + y < 16 * H → 16 * c + x < 16 * W → at new (72 * y + x) ≡ at U (cell (4 * W) (16 * r + y) (16 * c + x))
      above y x p q s l u v =
          let b = x / 16 in
          let k = x % 16 / 4 in
          let j = 4 * y + x % 4 in
          let t = 16 * (m + b) + k in
          let low : b < n = omega arith in
          let few : k < 4 = omega arith in
          let short : j < 8 = omega arith in
          let e : t / 16 ≡ r * W + c + b = omega arith in
          let upper : t % 16 ≡ k = omega arith in
          let at_block = block-place c y x (t % 16) upper in
          ap (at new) (strip-place y x) ∙ f.own b k j low few short
          ∙ here t j b k e upper few low short
          ∙ square_in_at wide r (c + b) (omega (arith, low)) U t j (e ∙ omega arith) (omega (arith, short))
          ∙ ap₂ (λ (a d : ℕ). at U (cell (4 * W) (16 * r + a) d)) at_block.0 at_block.1

  -- ---- the columns beside

  pub columns_carried : (first : ℕ) {strip : List ℤ} → n ≡ 4 → c + n < W → Holds size samples r c first 18 0 (16 * n + 2) strip → Carried size samples r (c + n) first strip
  columns_carried first {strip} four more d = record {
    there = λ y x a b e f.
        ap (at strip) (omega arith) ∙ d.there y (64 + x) a b (omega arith) (omega arith) f (omega arith) ∙ ap (λ (z : ℕ). at U (cell (4 * W) (16 * r + y) z)) (omega arith);
  }

  -- ---- a group: its own blocks, and its rows for the row of macroblocks below

  pub group_through : (blocks mid new : ℕ → List ℤ) (m : ℕ) {strip : List ℤ} → m ≡ r * W + c → n ≤ 4 → Holds size samples r c 0 18 0 (16 * n) strip → Through size samples (r * W + c) blocks
      → ((t b : ℕ) → b < n → t / 16 ≡ m + b → mid t ≡ undone_in 72 (16 * b) strip (t % 16)) → ((t : ℕ) → (Among m (m + n) t → ⊥) → mid t ≡ blocks t)
      → ((t b j : ℕ) → b < n → t / 16 ≡ r * W + c + W + b → t / 16 < macroblocks size → t % 16 < 4 → j < 8 → at (new t) j ≡ at strip (place_in 16 b (t % 16) j))
      → ((t : ℕ) → (Among (r * W + c + W) (r * W + c + W + n) t → ⊥) → new t ≡ mid t) → Through size samples (r * W + c + n) new
  group_through blocks mid new m {strip} place few d through own others parked kept = record {
    done = λ t h. kept t (λ a. omega (arith, a, h)) ∙ by_cases (dec_lt (t / 16) (r * W + c))
        (λ l. others t (λ a. omega (arith, a, l)) ∙ through.done t l)
        (λ l. let b = t / 16 - (r * W + c) in own t b (omega (arith, l)) (omega (arith, l)) ∙ strip-square d t b (omega (arith, l)) (omega (arith, l)));
    parked = λ t j h k l e f g. by_cases (dec_lt (t / 16) (r * W + c + W))
        (λ i. ap (λ v. at v j) (kept t (λ a. omega (arith, a, i)) ∙ others t (λ a. omega (arith, a, h))) ∙ through.parked t j (omega arith) i l e f g)
        (λ i. under t j (omega (arith, i)) k e f g);
  }
    where
      under : (t j : ℕ) → r * W + c + W ≤ t / 16 → t / 16 < r * W + c + n + W → t / 16 < macroblocks size → t % 16 < 4 → j < 8 → at (new t) j ≡ at (square_in W U t) j
      under t j h k e f g =
          let b = t / 16 - (r * W + c + W) in
          let next : (r + 1) * W ≡ r * W + W = add-mul r 1 W ∙ omega arith in
          let row : r + 1 < H = by_cases (dec_lt (r + 1) H) (λ o. o) (λ o. absurd (omega (arith, e, h, mul-le-mul_right W (last o), next))) in
          parked t b j (omega arith) (omega arith) e f g
          ∙ ap (at strip) (omega arith) ∙ d.there (16 + j / 4) (16 * b + (4 * (t % 16) + j % 4)) (omega arith) (omega arith) (omega arith) (omega arith) (omega (arith, row)) (omega arith)
          ∙ ap₂ (λ (y x : ℕ). at U (cell (4 * W) y x)) (omega (arith, f)) (omega (arith, f))
          ∙ sym (square_in_at wide (r + 1) (c + b) (omega arith) U t j (omega (arith, next)) (omega arith))
        where
          last : ¬ (r + 1 < H) → H ≤ r + 1
          last o = omega (arith, o)

-- ---- carrying columns

abbrev pub CarriedUpTo : ℕ → List ℤ → List ℤ → Type 0
CarriedUpTo n old new = (y x : ℕ) → y < n → x < 2 → at new (72 * y + x) ≡ at old (72 * y + 64 + x)

-- ---- a group's macroblocks, and those below them, are macroblocks of the picture

pub group_inside : (size : Size) (r c n : ℕ) (cells : Cells) {dc low high : List ℤ} → cells.dc ≡ r * size.width.0 + c → r < size.height.0 → c + n ≤ size.width.0 → Lengths (macroblocks size) (planes dc low high)
    → (cells.dc + n ≤ length dc) × (cells.low + 15 * n ≤ length low) × (cells.high + 240 * n ≤ length high)
group_inside size r c n cells place h k p =
    let W = size.width.0 in
    let all : cells.dc + n ≤ macroblocks size = omega (arith, row_inside r size.height.0 W h) in
    (omega (arith, all, p.dc), omega (arith, all, p.low, cells.of_one), omega (arith, all, p.high, cells.of_one))

-- ---- below the last row of macroblocks there is none

pub none_below : (size : Size) (r c n : ℕ) (strip : List ℤ) (blocks : ℕ → List ℤ) → r + 1 ≡ size.height.0 → Lowered size (r * size.width.0 + c + size.width.0) n strip blocks blocks
none_below size r c n strip blocks e =
    let W = size.width.0 in
    let all : W * size.height.0 ≡ r * W + W = ap (λ (h : ℕ). W * h) (sym e) ∙ omega arith in
    record { own = λ t b j h f g k l. absurd (omega (arith, f, g, all)); others = λ t h. refl }
