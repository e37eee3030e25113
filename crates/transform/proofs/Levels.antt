-- A level can be undone: the places of each of its uses rise one after the other and stay inside the grid, so that they are different places of it.
use Prim.Native.Nat.{ℕ, suc, ◌+◌, ◌*◌, ◌≤◌, ◌<◌}
use mathlib.Core.Path.{◌≡◌, refl}
use mathlib.Core.Bool.{Bool, true, false, not}
use mathlib.Core.List.{List, [], ◌∷◌, ◌++◌}
use native.Mathlib.Omega.{arith}
use native.Mathlib.Nat.{mul-le-mul_right}
use lib.ListN.{length}
use lib.Dec.{T, ltb, eqb, lt→ltb, eqb→eq}
use mir.Facts.{yes_and, not_T}
use Rattle.lifting.specs.Program.{end, apply, FourFilter}
use Rattle.lifting.specs.Valid.{not_in, places, valid}
use Rattle.lifting.proofs.Uses.{valid_then}
use Rattle.figures.specs.Figures.{core, square_filter, four_filter}
use Rattle.figures.proofs.Figures.{core-valid, square-filter-valid, four-filter-valid}
use Rattle.transform.specs.Level.{cell, strip, square, corner, core_at, square_filter_at, four_filter_at, corner_filter_at, cores, filters, level}
use Rattle.transform.proofs.Stages.{OfCores, OfFilters, of-cores, of-filters}

-- ---- places that rise, the first not below m and the last below n

abbrev pub Rising : ℕ → ℕ → List ℕ → Type 0
Rising m n [] = m ≤ n
Rising m n (p ∷ ps) = (m ≤ p) × Rising (suc p) n ps

rising_end : (m n : ℕ) (ps : List ℕ) → Rising m n ps → m ≤ n
rising_end m n [] h = h
rising_end m n (p ∷ ps) h = omega (arith, rising_end (suc p) n ps h.1)

rising_not_in : (i m n : ℕ) (ps : List ℕ) → i < m → Rising m n ps → T (not_in i ps)
rising_not_in i m n [] l h = tt
rising_not_in i m n (p ∷ ps) l h =
    yes_and (not (eqb i p)) _ (not_T (eqb i p) (λ t. omega (arith, eqb→eq i p t))) (rising_not_in i (suc p) n ps (omega arith) h.1)

pub rising_places : (m n : ℕ) (ps : List ℕ) → Rising m n ps → T (places n ps)
rising_places m n [] h = tt
rising_places m n (p ∷ ps) h =
    yes_and (ltb p n) _ (lt→ltb p n (rising_end (suc p) n ps h.1))
    (yes_and (not_in p ps) _ (rising_not_in p (suc p) n ps (omega arith) h.1) (rising_places (suc p) n ps h.1))

rising_from : (k m n : ℕ) (ps : List ℕ) → k ≤ m → Rising m n ps → Rising k n ps
rising_from k m n [] l h = omega arith
rising_from k m n (p ∷ ps) l h = (omega arith, h.1)

rising_append : (m k n : ℕ) (ps qs : List ℕ) → Rising m k ps → Rising k n qs → Rising m n (ps ++ qs)
rising_append m k n [] qs h l = rising_from m k n qs h l
rising_append m k n (p ∷ ps) qs h l = (h.0, rising_append (suc p) k n ps qs h.1 l)

strip_rising : (step at n : ℕ) → 0 < step → at + step + step + step < n → Rising at n (strip step at)
strip_rising step at n h l = (omega arith, (omega arith, (omega arith, (omega arith, omega arith))))

strip-places : (step at n : ℕ) → 0 < step → at + step + step + step < n → T (places n (strip step at))
strip-places step at n h l = rising_places at n (strip step at) (strip_rising step at n h l)

pub corner-places : (w at n : ℕ) → 2 ≤ w → at + w + 1 < n → T (places n (corner w at))
corner-places w at n h l = rising_places at n (corner w at) (omega arith, (omega arith, (omega arith, (omega arith, omega arith))))

-- a row of a square ends before the next begins
row_rising : (at next n : ℕ) (ps : List ℕ) → at + 4 ≤ next → Rising next n ps → Rising at n (strip 1 at ++ ps)
row_rising at next n ps h l = rising_append at next n (strip 1 at) ps (strip_rising 1 at next (omega arith) (omega arith)) l

pub square-places : (w at n : ℕ) → 4 ≤ w → at + w + w + w + 3 < n → T (places n (square w at))
unfolding square
square-places w at n h l =
    let last = strip 1 (at + w + w + w) in
    let third = strip 1 (at + w + w) ++ last in
    let second = strip 1 (at + w) ++ third in
    rising_places at n (strip 1 at ++ second)
    (row_rising at (at + w) n second (omega arith)
    (row_rising (at + w) (at + w + w) n third (omega arith)
    (row_rising (at + w + w) (at + w + w + w) n last (omega arith)
    (strip_rising 1 (at + w + w + w) n (omega arith) (omega arith)))))

-- ---- squares, parts of rows and parts of columns that lie inside a grid of p by q squares, and uses there

module _ (p q r c : ℕ) where
  pub square_inside : r + 4 ≤ 4 * q → c + 4 ≤ 4 * p → T (places (16 * (p * q)) (square (4 * p) (cell p r c)))
  square_inside h l = square-places (4 * p) (cell p r c) (16 * (p * q)) (omega arith) (omega (arith, mul-le-mul_right (4 * p) h))

  pub row_strip_inside : r < 4 * q → c + 4 ≤ 4 * p → T (places (16 * (p * q)) (strip 1 (cell p r c)))
  row_strip_inside h l = strip-places 1 (cell p r c) (16 * (p * q)) (omega arith) (omega (arith, mul-le-mul_right (4 * p) h))

  pub column_strip_inside : r + 4 ≤ 4 * q → c < 4 * p → T (places (16 * (p * q)) (strip (4 * p) (cell p r c)))
  column_strip_inside h l = strip-places (4 * p) (cell p r c) (16 * (p * q)) (omega arith) (omega (arith, mul-le-mul_right (4 * p) h))

  pub corner_inside : r + 2 ≤ 4 * q → c + 2 ≤ 4 * p → T (places (16 * (p * q)) (corner (4 * p) (cell p r c)))
  corner_inside h l = corner-places (4 * p) (cell p r c) (16 * (p * q)) (omega arith) (omega (arith, mul-le-mul_right (4 * p) h))

  core-valid-at : r + 4 ≤ 4 * q → c + 4 ≤ 4 * p → T (valid (16 * (p * q)) (core_at (4 * p) (cell p r c)))
  unfolding core_at square
  core-valid-at h l = yes_and (places (16 * (p * q)) (square (4 * p) (cell p r c))) _ (square_inside h l) (yes_and (valid 16 core) _ core-valid tt)

  square-filter-valid-at : r + 4 ≤ 4 * q → c + 4 ≤ 4 * p → T (valid (16 * (p * q)) (square_filter_at (4 * p) (cell p r c)))
  unfolding square_filter_at square
  square-filter-valid-at h l =
      yes_and (places (16 * (p * q)) (square (4 * p) (cell p r c))) _ (square_inside h l) (yes_and (valid 16 square_filter) _ square-filter-valid tt)

-- Figure 4.13 at any four places
four-filter-valid-at : (n : ℕ) (ps : List ℕ) → length ps ≡ 4 → T (places n ps) → T (valid n (apply FourFilter four_filter ps end))
four-filter-valid-at n ps e t = yes_and (places n ps) _ t (yes_and (valid (length ps) four_filter) _ (rw e four-filter-valid) tt)

-- ---- a level

module _ (p q : ℕ) where
  core-uses : OfCores (λ a. T (valid (16 * (p * q)) a)) p q
  core-uses j i l h = core-valid-at p q (4 * j) (4 * i) (omega arith) (omega arith)

  filter-uses : OfFilters (λ a. T (valid (16 * (p * q)) a)) p q
  unfolding four_filter_at corner_filter_at
  filter-uses =
      record {
        squares = λ j i l h. square-filter-valid-at p q (4 * j + 2) (4 * i + 2) (omega arith) (omega arith);
        rows = λ r i l h. four-filter-valid-at _ (strip 1 (cell p r (4 * i + 2))) refl (row_strip_inside p q r (4 * i + 2) l (omega arith));
        columns = λ c j l h. four-filter-valid-at _ (strip (4 * p) (cell p (4 * j + 2) c)) refl (column_strip_inside p q (4 * j + 2) c (omega arith) l);
        corners = λ r c l h. four-filter-valid-at _ (corner (4 * p) (cell p r c)) refl (corner_inside p q r c l h);
      }

  pub cores-valid : T (valid (16 * (p * q)) (cores p q))
  cores-valid = of-cores (λ a. T (valid (16 * (p * q)) a)) tt (valid_then _) p q core-uses

  pub filters-valid : 0 < p → 0 < q → T (valid (16 * (p * q)) (filters p q))
  filters-valid h l = of-filters (λ a. T (valid (16 * (p * q)) a)) tt (valid_then _) p q h l filter-uses

  pub level-valid : (filtered : Bool) → 0 < p → 0 < q → T (valid (16 * (p * q)) (level filtered p q))
  unfolding level
  level-valid true h l = valid_then _ (cores p q) (filters p q) cores-valid (filters-valid h l)
  level-valid false h l = valid_then _ (cores p q) end cores-valid tt
