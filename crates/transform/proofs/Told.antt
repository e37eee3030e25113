-- Where a level wraps, told without its order. The uses of a stage lie at different places, so that a stage wraps where one of its uses does on the grid as it was;
-- and since a valid program wraps when it is run if and only if it does when it is undone from its result, the cores of a level are judged run and its filters undone.
use Prim.Native.Nat.{ℕ, ◌+◌, ◌*◌, ◌<◌}
use mathlib.Core.Path.{◌≡◌, ◌∙◌, ap}
use mathlib.Core.Bool.{Bool, true, false, ◌||◌}
use mathlib.Core.List.{List, [], ◌∷◌}
use native.Mathlib.Omega.{arith}
use lib.Arith.{digits_div, digits_mod, digits_lt}
use lib.Dec.{T}
use lib.IntN.{ℤ}
use Rattle.lifting.specs.Program.{Core, SquareFilter, FourFilter, get, run, undo}
use Rattle.lifting.specs.Row.{Row}
use Rattle.lifting.specs.Valid.{valid}
use Rattle.lifting.specs.Tests.{any}
use Rattle.lifting.specs.Wraps.{wraps, undo_wraps}
use Rattle.lifting.specs.AnyUse.{any_use}
use Rattle.lifting.proofs.Tests.{any_same, any-rows}
use Rattle.lifting.proofs.Compose.{run_then, undo_then}
use Rattle.lifting.proofs.Reverse.{row-run, row-undo}
use Rattle.lifting.proofs.NoWrap.{wraps_then, undo_wraps_then}
use Rattle.lifting.proofs.Turned.{wraps_turned, undo_wraps_turned}
use Rattle.lifting.proofs.AnyUse.{any_use_then, any_use_each, any_use_apply}
use Rattle.lifting.proofs.Apart.{run_alone, undone_alone, run_alone_use, undone_alone_use}
use Rattle.figures.specs.Figures.{core, square_filter, four_filter}
use Rattle.transform.specs.Level.{cell, square, core_at, square_filter_at, square_filters, row_filters, column_filters, along_edges, corner_filters, cores, filters, filters_if, level}
use Rattle.picture.specs.Table.{table}
use Rattle.transform.specs.Grids.{grid}
use Rattle.picture.proofs.Table.{table_same}
use Rattle.transform.proofs.Grid.{at-grid}
use Rattle.transform.proofs.Squares.{square-places}
use Rattle.transform.proofs.Levels.{cores-valid, filters-valid}
use Rattle.transform.proofs.Apart.{of-cores, of-filters}

-- ---- stages

pub cores_alone : (p q : ℕ) (v : List ℤ) → wraps (cores p q) v ≡ any_use wraps (cores p q) v
unfolding core_at
cores_alone p q v = (of-cores run_alone p q (λ S w i h. run_alone_use Core core (square w i) h)).alone v

filters_alone : (p q : ℕ) → 0 < p → 0 < q → (v : List ℤ) → undo_wraps (filters p q) v ≡ any_use undo_wraps (filters p q) v
unfolding square_filter_at
filters_alone p q wide tall v =
    (of-filters undone_alone p q
    (record {
      squares = λ S w i h. undone_alone_use SquareFilter square_filter (square w i) h;
      fours = λ S a b c d h. undone_alone_use FourFilter four_filter (a ∷ b ∷ c ∷ d ∷ []) h;
    }) wide tall).alone v

-- windows, edge rows, edge columns and corners
pub filters-told : (p q : ℕ) → 0 < p → 0 < q → (v : List ℤ)
    → undo_wraps (filters p q) v ≡ any_use undo_wraps (square_filters p q) v || (any_use undo_wraps (along_edges q (row_filters p)) v || (any_use undo_wraps (along_edges p (column_filters p q)) v || any_use undo_wraps (corner_filters p q) v))
unfolding filters
filters-told p q wide tall v =
    filters_alone p q wide tall v
    ∙ any_use_then undo_wraps (square_filters p q) _ v
    ∙ ap (λ b. any_use undo_wraps (square_filters p q) v || b)
    (any_use_then undo_wraps (along_edges q (row_filters p)) _ v
    ∙ ap (λ b. any_use undo_wraps (along_edges q (row_filters p)) v || b) (any_use_then undo_wraps (along_edges p (column_filters p q)) (corner_filters p q) v))

-- ---- the cores of a grid, square by square

-- the squares in raster order
pub cores_in_order : (p q : ℕ) (v : List ℤ) → wraps (cores p q) v ≡ any q (λ j. any p (λ i. wraps core (get (square (4 * p) (cell p (4 * j) (4 * i))) v)))
unfolding cores core_at
cores_in_order p q v =
    cores_alone p q v
    ∙ any_use_each wraps q _ v
    ∙ any_same q _ _ (λ j l. any_use_each wraps p _ v ∙ any_same p _ _ (λ i m. any_use_apply wraps Core core (square (4 * p) (cell p (4 * j) (4 * i))) v))

pub cores-of-grid : (p q : ℕ) (f : ℕ → ℕ → ℤ) → 0 < p → wraps (cores p q) (grid p q f) ≡ any (p * q) (λ s. wraps core (table 16 (f s)))
cores-of-grid p q f wide =
    cores_in_order p q (grid p q f)
    ∙ any_same q _ _ (λ j l. any_same p _ _ (λ i m. ap (wraps core) (numbers j i l m)))
    ∙ any-rows p q (λ s. wraps core (table 16 (f s)))
  where
    numbers : (j i : ℕ) → j < q → i < p → get (square (4 * p) (cell p (4 * j) (4 * i))) (grid p q f) ≡ table 16 (f (j * p + i))
    numbers j i l m =
        let s = j * p + i in
        let e = square-places p s (grid p q f) ∙ table_same 16 _ (f s) (λ k h. at-grid wide q f s k (omega (arith, digits_lt l m)) h) in
        rw (digits_div j m, digits_mod j m) at e

-- ---- a level

filters_if_valid : (filtered : Bool) (p q : ℕ) → 0 < p → 0 < q → T (valid (16 * (p * q)) (filters_if filtered p q))
filters_if_valid true p q wide tall = filters-valid p q wide tall
filters_if_valid false p q wide tall = tt

module _ (filtered : Bool) (p q : ℕ) (v : List ℤ) (wide : 0 < p) (tall : 0 < q) (r : Row (16 * (p * q)) v) where
  pub level-told : wraps (level filtered p q) v ≡ wraps (cores p q) v || undo_wraps (filters_if filtered p q) (run (level filtered p q) v)
  unfolding level
  level-told =
      let last = filters_if filtered p q in
      rw (wraps_then (cores p q) last v, run_then (cores p q) last v)
      (ap (λ b. wraps (cores p q) v || b) (wraps_turned last (filters_if_valid filtered p q wide tall) (row-run (cores p q) (cores-valid p q) r)))

  pub level_untold : undo_wraps (level filtered p q) v ≡ undo_wraps (filters_if filtered p q) v || wraps (cores p q) (undo (level filtered p q) v)
  unfolding level
  level_untold =
      let last = filters_if filtered p q in
      rw (undo_wraps_then (cores p q) last v, undo_then (cores p q) last v)
      (ap (λ b. undo_wraps last v || b) (undo_wraps_turned (cores p q) (cores-valid p q) (row-undo last (filters_if_valid filtered p q wide tall) r)))
