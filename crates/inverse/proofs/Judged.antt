-- A level judged in parts: where no number is large, nothing wraps; else a core does, or, since they run, one of the filters does when it is undone.
use Prim.Native.Nat.{ℕ, ◌*◌, ◌<◌}
use mathlib.Core.Path.{◌≡◌, sym, ◌∙◌, ap, subst}
use mathlib.Core.Bool.{Bool, true, false, ◌||◌}
use mathlib.Core.List.{List}
use native.Mathlib.Omega.{arith}
use lib.IntN.{ℤ}
use Rattle.lifting.specs.Program.{run}
use Rattle.lifting.specs.Row.{Row}
use Rattle.lifting.specs.Wraps.{wraps, undo_wraps, Within}
use Rattle.lifting.proofs.NoWrap.{wraps_then}
use Rattle.transform.specs.Level.{cores, filters_if, level}
use Rattle.transform.specs.Grids.{first_grid, second_grid}
use Rattle.transform.proofs.Grid.{row_first, row-second}
use Rattle.transform.proofs.NoWrap.{level-calm, first-within, second-within}
use Rattle.transform.proofs.Told.{level-told}

-- ---- any level

module _ (filtered : Bool) (p q : ℕ) (g : List ℤ) where
  pub core-wraps : true ≡ wraps (cores p q) g → true ≡ wraps (level filtered p q) g
  unfolding level
  core-wraps e = sym (wraps_then (cores p q) (filters_if filtered p q) g ∙ ap (λ b. b || wraps (filters_if filtered p q) (run (cores p q) g)) (sym e))

  pub filter-wraps : 0 < p → 0 < q → Row (16 * (p * q)) g → false ≡ wraps (cores p q) g → {v : List ℤ} → v ≡ run (level filtered p q) g
      → {r : Bool} → r ≡ undo_wraps (filters_if filtered p q) v → r ≡ wraps (level filtered p q) g
  filter-wraps wide tall f e h k = k ∙ ap (undo_wraps (filters_if filtered p q)) h ∙ sym (level-told filtered p q g wide tall f ∙ ap (λ b. b || undo_wraps (filters_if filtered p q) (run (level filtered p q) g)) (sym e))

-- ---- the two levels of a picture

module _ (filtered : Bool) {W H : ℕ} (wide : 0 < W) (tall : 0 < H) where
  pub first-calm : {dc low : List ℤ} → Within 33554432 dc → Within 33554432 low → false ≡ wraps (level filtered W H) (first_grid W H dc low)
  first-calm a b = sym (level-calm filtered W H wide tall _ (first-within W H a b))

  pub second-calm : {view high : List ℤ} → Within 33554432 view → Within 33554432 high → false ≡ wraps (level filtered (4 * W) (4 * H)) (second_grid W H view high)
  second-calm a b =
      let w : 0 < 4 * W = omega arith in
      let t : 0 < 4 * H = omega arith in
      sym (level-calm filtered (4 * W) (4 * H) w t _ (second-within W H a b))

  pub first-filter-wraps : {dc low : List ℤ} → Row (W * H) dc → Row (15 * (W * H)) low → false ≡ wraps (cores W H) (first_grid W H dc low)
      → {v : List ℤ} → v ≡ run (level filtered W H) (first_grid W H dc low) → {r : Bool} → r ≡ undo_wraps (filters_if filtered W H) v → r ≡ wraps (level filtered W H) (first_grid W H dc low)
  first-filter-wraps r t e h k = filter-wraps filtered W H _ wide tall (row_first W H r t) e h k

  pub second-filter-wraps : {view high : List ℤ} → Row (16 * (W * H)) view → Row (240 * (W * H)) high → false ≡ wraps (cores (4 * W) (4 * H)) (second_grid W H view high)
      → {v : List ℤ} → v ≡ run (level filtered (4 * W) (4 * H)) (second_grid W H view high) → {r : Bool} → r ≡ undo_wraps (filters_if filtered (4 * W) (4 * H)) v
      → r ≡ wraps (level filtered (4 * W) (4 * H)) (second_grid W H view high)
  second-filter-wraps {view} {high} r t e h k =
      let w : 0 < 4 * W = omega arith in
      let l : 0 < 4 * H = omega arith in
      let n : 256 * (W * H) ≡ 16 * (4 * W * (4 * H)) = omega arith in
      filter-wraps filtered (4 * W) (4 * H) _ w l (subst (λ (m : ℕ). Row m (second_grid W H view high)) n (row-second W H r t)) e h k
