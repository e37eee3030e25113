-- The unfiltered samples number by number: inside the places of one use they are that use undone.
use Prim.Native.Nat.{ℕ, ◌+◌, ◌-◌, ◌*◌, ◌/◌, ◌%◌, ◌<◌}
use mathlib.Core.Path.{◌≡◌, refl, sym, ◌∙◌, ap}
use mathlib.Core.Logic.{inl}
use mathlib.Core.List.{List, [], ◌∷◌}
use native.Mathlib.Omega.{arith}
use native.Mathlib.Nat.{add-mul}
use lib.Arith.{digits_lt}
use lib.Dec.{T}
use lib.ListN.{length, length-set}
use lib.IntN.{ℤ}
use Rattle.lifting.specs.Program.{Program, end, apply, Operator, at, get, back, undo, line_by, undo_by}
use Rattle.lifting.specs.Valid.{places}
use Rattle.lifting.proofs.Reverse.{get-put, length-put}
use Rattle.lifting.proofs.Between.{All}
use Rattle.lifting.proofs.Locality.{agree_refl, get-same}
use Rattle.figures.specs.Figures.{square_filter, four_filter}
use Rattle.transform.specs.Level.{cell, strip, square, corner, square_filter_at, four_filter_at, corner_filter_at, filters}
use Rattle.picture.proofs.Table.{at_table}
use Rattle.transform.proofs.Squares.{get_sixteen, square-is}
use Rattle.transform.proofs.Levels.{square_inside, row_strip_inside, column_strip_inside, corner_inside}
use Rattle.transform.proofs.Alone.{Does}
use Rattle.forward_kernel.proofs.Stores.{below-four}
use Rattle.forward_two_edges.specs.Unfiltered.{Edge, First}
use Rattle.forward_two_edges.proofs.Alone.{first_inside, square-within, row_within, column-within, corner-within, square_alone, row_alone, column_alone, corner_alone}

-- the places of a grid
pub cell-low : (p q y x : ℕ) → y < 4 * q → x < 4 * p → cell p y x < 16 * (p * q)
cell-low p q y x h k = omega (arith, digits_lt {q = y} {m = 4 * q} {r = x} {c = 4 * p} h k)

pub length-square : (v : List ℤ) → length (undo square_filter v) ≡ length v
unfolding undo_by square_filter
length-square v = simp length-put

-- ---- the unfiltered numbers at the places of one use

length-four : (v : List ℤ) → length (undo four_filter v) ≡ length v
unfolding undo_by four_filter line_by back
length-four v = simp (length-set, length-put)

-- a use that is alone on its places
alone_numbers : {P : ℕ → Type 0} {a : Program} {n : ℕ} (o : Operator) (f : Program) (ps : List ℕ) (s : List ℤ) → Does P a (apply o f ps end) → All P ps → T (places n ps)
    → length (undo f (get ps s)) ≡ length ps → length s ≡ n → get ps (undo a s) ≡ undo f (get ps s)
unfolding undo_by
alone_numbers {P} o f ps s d h t e l = get-same P ps h (d.undoes s s agree_refl) ∙ get-put ps (undo f (get ps s)) s t e l

module _ (p q : ℕ) (s : List ℤ) (len : length s ≡ 16 * (p * q)) where
  square-numbers : (j i : ℕ) → j < q - 1 → i < p - 1
      → get (square (4 * p) (cell p (4 * j + 2) (4 * i + 2))) (undo (filters p q) s) ≡ undo square_filter (get (square (4 * p) (cell p (4 * j + 2) (4 * i + 2))) s)
  unfolding square_filter_at square get
  square-numbers j i hj hi =
      alone_numbers _ square_filter (square (4 * p) (cell p (4 * j + 2) (4 * i + 2))) s (square_alone p q j i hj hi)
      (square-within p (4 * j + 2) (4 * i + 2) (omega arith))
      (square_inside p q (4 * j + 2) (4 * i + 2) (omega arith) (omega arith)) (length-square (get (square (4 * p) (cell p (4 * j + 2) (4 * i + 2))) s)) len

  row-numbers : (y i : ℕ) → y < 4 * q → Edge q y → i < p - 1
      → get (strip 1 (cell p y (4 * i + 2))) (undo (filters p q) s) ≡ undo four_filter (get (strip 1 (cell p y (4 * i + 2))) s)
  unfolding four_filter_at get
  row-numbers y i hy e hi =
      alone_numbers _ four_filter (strip 1 (cell p y (4 * i + 2))) s (row_alone p q y i hy e hi)
      (row_within p y (4 * i + 2) (omega arith))
      (row_strip_inside p q y (4 * i + 2) hy (omega arith)) (length-four (get (strip 1 (cell p y (4 * i + 2))) s)) len

  column-numbers : (x j : ℕ) → x < 4 * p → Edge p x → j < q - 1
      → get (strip (4 * p) (cell p (4 * j + 2) x)) (undo (filters p q) s) ≡ undo four_filter (get (strip (4 * p) (cell p (4 * j + 2) x)) s)
  unfolding four_filter_at get
  column-numbers x j hx e hj =
      alone_numbers _ four_filter (strip (4 * p) (cell p (4 * j + 2) x)) s (column_alone p q x j hx e hj)
      (column-within p (4 * j + 2) x hx)
      (column_strip_inside p q (4 * j + 2) x (omega arith) hx) (length-four (get (strip (4 * p) (cell p (4 * j + 2) x)) s)) len

  corner-numbers : (y x : ℕ) → 0 < p → 0 < q → First q y → First p x → get (corner (4 * p) (cell p y x)) (undo (filters p q) s) ≡ undo four_filter (get (corner (4 * p) (cell p y x)) s)
  unfolding corner_filter_at get
  corner-numbers y x wide tall fy fx =
      let hy = first_inside q y tall fy in
      let hx = first_inside p x wide fx in
      alone_numbers _ four_filter (corner (4 * p) (cell p y x)) s (corner_alone p q y x wide tall fy fx) (corner-within p y x (omega arith))
      (corner_inside p q y x (omega arith) (omega arith)) (length-four (get (corner (4 * p) (cell p y x)) s)) len

-- ---- number by number

-- what equal fours say of each number
pub at-four : (f : ℕ → ℕ) (v xs : List ℤ) {a b c d : ℕ} → a ≡ f 0 → b ≡ f 1 → c ≡ f 2 → d ≡ f 3 → get (a ∷ b ∷ c ∷ d ∷ []) v ≡ xs → (k : ℕ) → k < 4 → at v (f k) ≡ at xs k
unfolding get
at-four f v xs x y z w e =
    below-four (λ k. at v (f k) ≡ at xs k) (rw x at (ap (λ l. at l 0) e)) (rw y at (ap (λ l. at l 1) e)) (rw z at (ap (λ l. at l 2) e)) (rw w at (ap (λ l. at l 3) e))

module _ (p q : ℕ) (s : List ℤ) (len : length s ≡ 16 * (p * q)) where
  pub window-at : (j i k : ℕ) → j < q - 1 → i < p - 1 → k < 16
      → at (undo (filters p q) s) (cell p (4 * j + 2 + k / 4) (4 * i + 2 + k % 4)) ≡ at (undo square_filter (get (square (4 * p) (cell p (4 * j + 2) (4 * i + 2))) s)) k
  window-at j i k hj hi h =
      let f : ℕ → ℕ = λ n. cell p (4 * j + 2 + n / 4) (4 * i + 2 + n % 4) in
      let u = undo (filters p q) s in
      let e = square-numbers p q s len j i hj hi in
      sym (at_table 16 (λ n. at u (f n)) k h) ∙ ap (λ l. at l k) (sym (get_sixteen f u) ∙ ap (λ ps. get ps u) (sym (square-is p (4 * j + 2) (4 * i + 2))) ∙ e)

  pub row_at : (y i k : ℕ) → y < 4 * q → Edge q y → i < p - 1 → k < 4
      → at (undo (filters p q) s) (cell p y (4 * i + 2 + k)) ≡ at (undo four_filter (get (strip 1 (cell p y (4 * i + 2))) s)) k
  row_at y i k hy e hi h =
      at-four (λ n. cell p y (4 * i + 2 + n)) (undo (filters p q) s) _ (omega arith) (omega arith) (omega arith) (omega arith) (row-numbers p q s len y i hy e hi) k h

  pub column-at : (x j k : ℕ) → x < 4 * p → Edge p x → j < q - 1 → k < 4
      → at (undo (filters p q) s) (cell p (4 * j + 2 + k) x) ≡ at (undo four_filter (get (strip (4 * p) (cell p (4 * j + 2) x)) s)) k
  column-at x j k hx e hj h =
      at-four (λ n. cell p (4 * j + 2 + n) x) (undo (filters p q) s) _ (down 0 (omega arith)) (down 1 (omega arith)) (down 2 (omega arith)) (down 3 (omega arith)) (column-numbers p q s len x j hx e hj) k h
    where
      down : (n : ℕ) {a : ℕ} → a ≡ cell p (4 * j + 2) x + n * (4 * p) → a ≡ cell p (4 * j + 2 + n) x
      down n e = e ∙ rw (add-mul (4 * j + 2) n (4 * p)) (omega arith)

  -- rows y and y + 1, columns x and x + 1
  pub corner-at : (y x k : ℕ) → 0 < p → 0 < q → First q y → First p x → k < 4
      → at (undo (filters p q) s) (cell p (y + k / 2) (x + k % 2)) ≡ at (undo four_filter (get (corner (4 * p) (cell p y x)) s)) k
  corner-at y x k wide tall fy fx h =
      at-four (λ n. cell p (y + n / 2) (x + n % 2)) (undo (filters p q) s) _ (omega arith) (omega arith) (below 0 (omega arith)) (below 1 (omega arith)) (corner-numbers p q s len y x wide tall fy fx) k h
    where
      below : (n : ℕ) {a : ℕ} → a ≡ cell p y x + 4 * p + n → a ≡ cell p (y + 1) (x + n)
      below n e = e ∙ rw (add-mul y 1 (4 * p)) (omega arith)

pub length-unfiltered : (p q : ℕ) (s : List ℤ) → 0 < p → 0 < q → length (undo (filters p q) s) ≡ length s
unfolding undo_by corner_filter_at
length-unfiltered p q s wide tall = ((corner_alone p q 0 0 wide tall (inl refl) (inl refl)).undoes s s agree_refl).len ∙ length-put _ _ s
