-- What holds of the empty program, of programs one after another and of each use of a stage holds of the whole stage: by induction on the counts of uses.
use Prim.Native.Nat.{ℕ, zero, suc, ◌+◌, ◌-◌, ◌*◌, ◌≤◌, ◌<◌}
use native.Mathlib.Omega.{arith}
use Rattle.lifting.specs.Program.{Program, end, ◌then◌, each}
use Rattle.transform.specs.Level.{cell, core_at, square_filter_at, four_filter_at, corner_filter_at, cores, square_filters, row_filters, column_filters, along_edges, corner_filters, filters}

-- P of each use of the core transform, and of each use of a filter, in a grid of p by q squares
abbrev pub OfCores : (Program → Type 0) → ℕ → ℕ → Type 0
OfCores P p q = (j i : ℕ) → j < q → i < p → P (core_at (4 * p) (cell p (4 * j) (4 * i)))

pub record OfFilters (P : Program → Type 0) (p q : ℕ) : Type 0 where
  pub squares : (j i : ℕ) → j < q - 1 → i < p - 1 → P (square_filter_at (4 * p) (cell p (4 * j + 2) (4 * i + 2)))
  pub rows : (r i : ℕ) → r < 4 * q → i < p - 1 → P (four_filter_at 1 (cell p r (4 * i + 2)))
  pub columns : (c j : ℕ) → c < 4 * p → j < q - 1 → P (four_filter_at (4 * p) (cell p (4 * j + 2) c))
  pub corners : (r c : ℕ) → r + 2 ≤ 4 * q → c + 2 ≤ 4 * p → P (corner_filter_at (4 * p) (cell p r c))

module _ (P : Program → Type 0) (none : P end) (join : (a b : Program) → P a → P b → P (a then b)) where
  of-each : (n : ℕ) (f : ℕ → Program) → ((k : ℕ) → k < n → P (f k)) → P (each n f)
  unfolding each
  of-each zero f h = none
  of-each (suc n) f h = join (each n f) (f n) (of-each n f (λ k l. h k (omega arith))) (h n (omega arith))

  module _ (p q : ℕ) where
    pub of-cores : OfCores P p q → P (cores p q)
    unfolding cores
    of-cores h = of-each q _ (λ j l. of-each p _ (λ i m. h j i l m))

    of-squares : OfFilters P p q → P (square_filters p q)
    unfolding square_filters
    of-squares h = of-each (q - 1) _ (λ j l. of-each (p - 1) _ (λ i m. h.squares j i l m))

    of-rows : OfFilters P p q → (r : ℕ) → r < 4 * q → P (row_filters p r)
    unfolding row_filters
    of-rows h r l = of-each (p - 1) _ (λ i m. h.rows r i l m)

    of-columns : OfFilters P p q → (c : ℕ) → c < 4 * p → P (column_filters p q c)
    unfolding column_filters
    of-columns h c l = of-each (q - 1) _ (λ j m. h.columns c j l m)

    of-edges : (n : ℕ) → 0 < n → (line : ℕ → Program) → ((i : ℕ) → i < 4 * n → P (line i)) → P (along_edges n line)
    of-edges n some line h = join _ _ (h 0 (omega arith)) (join _ _ (h 1 (omega arith)) (join _ _ (h (4 * n - 2) (omega arith)) (h (4 * n - 1) (omega arith))))

    of-corners : 0 < p → 0 < q → OfFilters P p q → P (corner_filters p q)
    unfolding corner_filters
    of-corners wide tall h =
        join _ _ (h.corners 0 0 (omega arith) (omega arith)) (join _ _ (h.corners 0 (4 * p - 2) (omega arith) (omega arith))
        (join _ _ (h.corners (4 * q - 2) 0 (omega arith) (omega arith)) (h.corners (4 * q - 2) (4 * p - 2) (omega arith) (omega arith))))

    pub of-filters : 0 < p → 0 < q → OfFilters P p q → P (filters p q)
    unfolding filters
    of-filters wide tall h =
        join _ _ (of-squares h) (join _ _ (of-edges q tall (row_filters p) (of-rows h)) (join _ _ (of-edges p wide (column_filters p q) (of-columns h)) (of-corners wide tall h)))
