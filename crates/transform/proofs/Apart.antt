-- The uses of a stage lie at different places: a key of the places tells them apart. So what is kept by joining programs at different places holds of a whole stage where it holds of its uses.
use Prim.Native.Nat.{ℕ, zero, suc, ◌+◌, ◌-◌, ◌*◌, ◌/◌, ◌%◌, ◌≤◌, ◌<◌, min}
use mathlib.Core.Path.{◌≡◌, refl, ap₂}
use mathlib.Core.Logic.{◌≢◌}
use mathlib.Core.List.{[], ◌∷◌}
use native.Mathlib.Omega.{arith}
use Rattle.lifting.specs.Program.{Program, end, apply, FourFilter, ◌then◌}
use Rattle.lifting.proofs.Between.{All}
use Rattle.lifting.proofs.Apart.{Joins, of-each}
use Rattle.figures.specs.Figures.{four_filter}
use Rattle.transform.specs.Level.{cell, square, core_at, square_filter_at, four_filter_at, corner_filter_at, cores, square_filters, row_filters, column_filters, along_edges, corner_filters, filters}
use Rattle.transform.proofs.Cells.{row, column, on_across, on_down, on_corner, on_square}

-- which of the outer two lines on either side a row (or column) r of n squares is, or an inner one: 0, 1, 3, 4; 2
unfoldable side : ℕ → ℕ → ℕ
side n r = min r 2 + (r - (4 * n - 3))

side_inner : (n r : ℕ) → 2 ≤ r → r + 2 < 4 * n → side n r ≡ 2
unfolding side
side_inner n r h k = omega arith

-- the first and the second line at the near edge and at the far one are no inner lines
no_inner : (a m : ℕ) → a < 2 → m < 2 → 3 * a + m ≢ 2
no_inner zero m h l e = omega (arith, e)
no_inner (suc a) m h l e = omega (arith, e)

-- the stage of the filters that a place belongs to; a corner has four
unfoldable part : ℕ → ℕ → ℕ → ℕ
part p q i = 5 * side q (row p i) + side p (column p i)

pub record Uses (G : (ℕ → Type 0) → Program → Type 0) : Type 1 where
  pub squares : (S : ℕ → Type 0) (w i : ℕ) → All S (square w i) → G S (square_filter_at w i)
  pub fours : (S : ℕ → Type 0) (a b c d : ℕ) → let ps = a ∷ b ∷ c ∷ d ∷ [] in All S ps → G S (apply FourFilter four_filter ps end)

abbrev Any : ℕ → Type 0
Any i = Unit {0}

-- a row (or column) of the uses of number k
step-inner : (n k r : ℕ) → k < n - 1 → 4 * k + 2 ≤ r → r < 4 * k + 2 + 4 → (side n r ≡ 2) × ((r - 2) / 4 ≡ k)
step-inner n k r h l m = (side_inner n r (omega arith) (omega arith), omega arith)

module _ {G : (ℕ → Type 0) → Program → Type 0} (joins : Joins G) (p q : ℕ) where
  pub of-cores : ((S : ℕ → Type 0) (w i : ℕ) → All S (square w i) → G S (core_at w i)) → G Any (cores p q)
  unfolding cores
  of-cores use' =
      of-each joins q _ Any (λ x. row p x / 4) (λ j l.
      of-each joins p _ (λ x. Unit {0} × (row p x / 4 ≡ j)) (λ x. column p x / 4) (λ i m.
      use' _ (4 * p) (cell p (4 * j) (4 * i)) (on_square p (λ r c. (Unit {0} × (r / 4 ≡ j)) × (c / 4 ≡ i)) (4 * j) (4 * i) _ refl (omega arith) (λ r c a b d e. ((tt, omega arith), omega arith)))))

  module _ (uses : Uses G) where
    of-squares : G (λ x. part p q x ≡ 12) (square_filters p q)
    unfolding square_filters part
    of-squares =
        of-each joins (q - 1) _ (λ x. part p q x ≡ 12) (λ x. (row p x - 2) / 4) (λ j l.
        of-each joins (p - 1) _ (λ x. (part p q x ≡ 12) × ((row p x - 2) / 4 ≡ j)) (λ x. (column p x - 2) / 4) (λ i m.
        uses.squares _ (4 * p) (cell p (4 * j + 2) (4 * i + 2)) (on_square p (λ r c. ((5 * side q r + side p c ≡ 12) × ((r - 2) / 4 ≡ j)) × ((c - 2) / 4 ≡ i)) (4 * j + 2) (4 * i + 2) _ refl (omega arith)
        (λ r c a b d e. let x = step-inner q j r l a b in let y = step-inner p i c m d e in ((rw (x.0, y.0) refl, x.1), y.1)))))

    of_row : (r : ℕ) → G (λ x. part p q x ≡ 5 * side q r + 2) (row_filters p r)
    unfolding row_filters four_filter_at part
    of_row r =
        of-each joins (p - 1) _ (λ x. part p q x ≡ 5 * side q r + 2) (λ x. (column p x - 2) / 4) (λ i m.
        uses.fours _ _ _ _ _ (on_across p (λ r' c. (5 * side q r' + side p c ≡ 5 * side q r + 2) × ((c - 2) / 4 ≡ i)) r (4 * i + 2) _ refl (omega arith)
        (one i m (4 * i + 2) (omega arith) (omega arith)) (one i m (4 * i + 2 + 1) (omega arith) (omega arith)) (one i m (4 * i + 2 + 2) (omega arith) (omega arith)) (one i m (4 * i + 2 + 3) (omega arith) (omega arith))))
      where
        one : (i : ℕ) → i < p - 1 → (c : ℕ) → 4 * i + 2 ≤ c → c < 4 * i + 2 + 4 → (5 * side q r + side p c ≡ 5 * side q r + 2) × ((c - 2) / 4 ≡ i)
        one i m c d e = let y = step-inner p i c m d e in (rw y.0 refl, y.1)

    of-column : (c : ℕ) → c < 4 * p → G (λ x. part p q x ≡ 10 + side p c) (column_filters p q c)
    unfolding column_filters four_filter_at part
    of-column c l =
        of-each joins (q - 1) _ (λ x. part p q x ≡ 10 + side p c) (λ x. (row p x - 2) / 4) (λ j m.
        uses.fours _ _ _ _ _ (on_down p (λ r c'. (5 * side q r + side p c' ≡ 10 + side p c) × ((r - 2) / 4 ≡ j)) (4 * j + 2) c _ refl l
        (one j m (4 * j + 2) (omega arith) (omega arith)) (one j m (4 * j + 2 + 1) (omega arith) (omega arith)) (one j m (4 * j + 2 + 1 + 1) (omega arith) (omega arith)) (one j m (4 * j + 2 + 1 + 1 + 1) (omega arith) (omega arith))))
      where
        one : (j : ℕ) → j < q - 1 → (r : ℕ) → 4 * j + 2 ≤ r → r < 4 * j + 2 + 4 → (5 * side q r + side p c ≡ 10 + side p c) × ((r - 2) / 4 ≡ j)
        one j m r d e = let y = step-inner q j r m d e in (rw y.0 refl, y.1)

    -- a stage and then stages of other parts
    next : {U : ℕ → Type 0} {a b : Program} (k : ℕ) → ((i : ℕ) → part p q i ≡ k → U i) → G (λ i. part p q i ≡ k) a → G (λ i. U i × (part p q i ≢ k)) b → G U (a then b)
    next k h a b = joins.join (λ i s r. r.1 s) h (λ i r. r.0) a b

    row-part : (r k : ℕ) → side q r ≡ k → G (λ x. part p q x ≡ 5 * k + 2) (row_filters p r)
    row-part r k e = rw e at (of_row r)

    column-part : (c k : ℕ) → c < 4 * p → side p c ≡ k → G (λ x. part p q x ≡ 10 + k) (column_filters p q c)
    column-part c k l e = rw e at (of-column c l)

    -- the parts of the rows are 2, 7, 17 and 22, and those of the columns 10, 11, 13 and 14
    abbrev OfRows : ℕ → Type 0
    OfRows i = (part p q i % 5 ≡ 2) × (part p q i ≢ 12)

    abbrev OfColumns : ℕ → Type 0
    OfColumns i = (part p q i / 5 ≡ 2) × (part p q i ≢ 12)

    of-rows : 0 < q → G OfRows (along_edges q (row_filters p))
    unfolding side
    of-rows tall =
        next 2 (λ i s. omega arith) (row-part 0 0 (omega arith))
        (next 7 (λ i s. omega arith) (row-part 1 1 (omega arith))
        (next 17 (λ i s. omega arith) (row-part (4 * q - 2) 3 (omega arith))
        (joins.weaken (λ i s. omega arith) (row-part (4 * q - 1) 4 (omega arith)))))

    of-columns : 0 < p → G OfColumns (along_edges p (column_filters p q))
    unfolding side
    of-columns wide =
        next 10 (λ i s. omega arith) (column-part 0 0 (omega arith) (omega arith))
        (next 11 (λ i s. omega arith) (column-part 1 1 (omega arith) (omega arith))
        (next 13 (λ i s. omega arith) (column-part (4 * p - 2) 3 (omega arith) (omega arith))
        (joins.weaken (λ i s. omega arith) (column-part (4 * p - 1) 4 (omega arith) (omega arith)))))

    -- the parts of the corners are 0, 1, 5 and 6, and these and 3, 15 and 18 more
    abbrev OfCorners : ℕ → Type 0
    OfCorners i = (part p q i % 5 ≢ 2) × (part p q i / 5 ≢ 2)

    -- which of the four: 0 to 3
    abbrev which : ℕ → ℕ
    which i = 2 * (part p q i / 15) + part p q i % 5 / 3

    of-corner : (r c a b : ℕ) → a < 2 → b < 2 → c + 1 < 4 * p → side q r ≡ 3 * a → side q (r + 1) ≡ 3 * a + 1 → side p c ≡ 3 * b → side p (c + 1) ≡ 3 * b + 1
        → G (λ i. OfCorners i × (which i ≡ 2 * a + b)) (corner_filter_at (4 * p) (cell p r c))
    unfolding corner_filter_at part
    of-corner r c a b a-low b-low h e f g k =
        uses.fours _ _ _ _ _ (on_corner p Here r c _ refl h (one r c 0 0 (omega arith) (omega arith) (omega arith) (omega arith)) (one r (c + 1) 0 1 (omega arith) (omega arith) (omega arith) k)
        (one (r + 1) c 1 0 (omega arith) (omega arith) f (omega arith)) (one (r + 1) (c + 1) 1 1 (omega arith) (omega arith) f k))
      where
        Here : ℕ → ℕ → Type 0
        Here y x = let k = 5 * side q y + side p x in ((k % 5 ≢ 2) × (k / 5 ≢ 2)) × (2 * (k / 15) + k % 5 / 3 ≡ 2 * a + b)

        one : (y x m n : ℕ) → m < 2 → n < 2 → side q y ≡ 3 * a + m → side p x ≡ 3 * b + n → Here y x
        one y x m n u v e f =
            let k : ℕ = 5 * (3 * a + m) + (3 * b + n) in
            let above : k / 15 ≡ a = omega arith in
            let left : k % 5 / 3 ≡ b = omega arith in
            rw (e, f) ((λ z. no_inner b n b-low v (omega (arith, z)), λ z. no_inner a m a-low u (omega (arith, z))), ap₂ (λ (i j : ℕ). 2 * i + j) above left)

    -- a corner and then corners after it
    and_then : {a b : Program} (k : ℕ) → G (λ i. OfCorners i × (which i ≡ k)) a → G (λ i. OfCorners i × (k < which i)) b → G (λ i. OfCorners i × (k ≤ which i)) (a then b)
    and_then k a b = joins.join (λ i s r. omega (arith, s.1, r.1)) (λ i s. (s.0, omega (arith, s.1))) (λ i r. (r.0, omega (arith, r.1))) a b

    of-corners : 0 < p → 0 < q → G OfCorners (corner_filters p q)
    unfolding corner_filters side
    of-corners wide tall =
        joins.weaken (λ i s. s.0)
        (and_then 0 (of-corner 0 0 0 0 (omega arith) (omega arith) (omega arith) (omega arith) (omega arith) (omega arith) (omega arith))
        (and_then 1 (of-corner 0 (4 * p - 2) 0 1 (omega arith) (omega arith) (omega arith) (omega arith) (omega arith) (omega arith) (omega arith))
        (and_then 2 (of-corner (4 * q - 2) 0 1 0 (omega arith) (omega arith) (omega arith) (omega arith) (omega arith) (omega arith) (omega arith))
        (joins.weaken (λ i s. (s.0, omega (arith, s.1))) (of-corner (4 * q - 2) (4 * p - 2) 1 1 (omega arith) (omega arith) (omega arith) (omega arith) (omega arith) (omega arith) (omega arith))))))

    pub of-filters : 0 < p → 0 < q → G Any (filters p q)
    unfolding filters
    of-filters wide tall =
        next 12 (λ i s. tt) of-squares
        (joins.join (λ i s r. r s.0) (λ i s. (tt, s.1)) (λ i r. (tt, λ e. r (omega arith))) (of-rows tall)
        (joins.join (λ i s r. r.1 s.0) (λ i s e. omega arith) (λ i r. r.0) (of-columns wide) (of-corners wide tall)))
