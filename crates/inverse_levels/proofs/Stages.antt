-- A level by its parts: the cores, the windows of all rows and the edges.
use Prim.Native.Nat.{ℕ, ◌+◌, ◌-◌}
use mathlib.Core.Path.{◌≡◌, ◌∙◌, ap}
use mathlib.Core.Bool.{Bool, true, false}
use mathlib.Core.List.{List}
use native.Mathlib.Omega.{arith}
use lib.IntN.{ℤ}
use Rattle.lifting.specs.Program.{run, each, run_by}
use Rattle.transform.specs.Level.{cores, square_filters, filters, level}
use Rattle.inverse_levels.specs.Stages.{window_row, windows_if, edges_if}
use Rattle.inverse_levels.proofs.Loops.{each_like, then_more}

-- all rows of windows are the square filters of the level
pub window-rows-all : (p q : ℕ) (v : List ℤ) {u : List ℤ} → u ≡ run (each (q - 1) (λ k. window_row p (0 + k))) v → u ≡ run (square_filters p q) v
unfolding square_filters
window-rows-all p q v e = each_like (q - 1) (λ k. window_row p (0 + k)) (window_row p) v e (λ k h. ap (window_row p) (same k))
  where
    same : (k : ℕ) → 0 + k ≡ k
    same k = omega arith

pub level_parts : (filtered : Bool) (p q : ℕ) (v : List ℤ) {a b c : List ℤ} → a ≡ run (cores p q) v → b ≡ run (windows_if filtered p 0 (q - 1)) a → c ≡ run (edges_if filtered p q) b → c ≡ run (level filtered p q) v
unfolding level filters run_by
level_parts true p q v {a} x y z = then_more _ _ _ x (then_more _ _ _ (window-rows-all p q a y) z)
level_parts false p q v x y z = then_more _ _ _ x (z ∙ y)
