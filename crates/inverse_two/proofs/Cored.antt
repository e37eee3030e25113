-- A grid whose squares all hold their core transforms has had the core transforms of a level: inside each square the level's cores are the square's own.
use Prim.Native.Nat.{ℕ, ◌*◌, ◌<◌}
use mathlib.Core.Path.{◌≡◌, sym, ◌∙◌, ap}
use mathlib.Core.Bool.{Bool, true, false}
use mathlib.Core.List.{List}
use native.Mathlib.Omega.{arith}
use lib.ListN.{length}
use lib.IntN.{ℤ}
use Rattle.lifting.specs.Program.{at, run, run_by}
use Rattle.lifting.proofs.Between.{none_left}
use Rattle.lifting.proofs.Locality.{Agree, agree_refl}
use Rattle.figures.specs.Figures.{core}
use Rattle.transform.specs.Level.{cores, filters, level}
use Rattle.transform.specs.Grids.{grid, second_grid}
use Rattle.picture.proofs.Table.{table_same}
use Rattle.transform.proofs.Grid.{grid-is, at-grid, length-grid}
use Rattle.transform.proofs.Squares.{square-places}
use Rattle.transform.proofs.Alone.{cores_of_row, other_rows, core-run-at}
use Rattle.inverse_levels.specs.Stages.{edges_if}
use Rattle.inverse_levels.proofs.Loops.{then_more}
use Rattle.inverse_two.specs.Blocks.{block_numbers, cored}
use Rattle.inverse_two.proofs.Windows.{squares_if}

module _ {p : ℕ} (wide : 0 < p) (q : ℕ) where
  length-cores : (v : List ℤ) → length (run (cores p q) v) ≡ length v
  unfolding run_by cores
  length-cores v = ((none_left (Agree (λ i. ⊥)) q (cores_of_row p) (λ j l. other_rows (λ i. ⊥) p j (λ k i c x. x))).runs v v agree_refl).len

  grid-cored : (f : ℕ → ℕ → ℤ) → grid p q (cored f) ≡ run (cores p q) (grid p q f)
  grid-cored f =
      let l = length-grid p q f in
      let g = grid p q f in
      grid-is wide q (cored f) (run (cores p q) g) (length-cores g ∙ l)
      (λ s k h o. sym (core-run-at wide q s h g l k o ∙ ap (λ u. at (run core u) k) (square-places p s g ∙ table_same 16 _ _ (λ i n. at-grid wide q f s i h n))))

-- the blocks' core transforms, all square filters and the edges are level two
pub level-two-is : (filtered : Bool) (W H : ℕ) → 0 < W → (view high : List ℤ) {v u : List ℤ} → v ≡ run (squares_if filtered (4 * W) (4 * H)) (grid (4 * W) (4 * H) (cored (block_numbers W view high)))
    → u ≡ run (edges_if filtered (4 * W) (4 * H)) v → u ≡ run (level filtered (4 * W) (4 * H)) (second_grid W H view high)
unfolding level filters run_by second_grid
level-two-is true W H wide view high a b = then_more _ _ _ (grid-cored {p = 4 * W} (omega arith) (4 * H) (block_numbers W view high)) (then_more _ _ _ a b)
level-two-is false W H wide view high a b = then_more _ _ _ (grid-cored {p = 4 * W} (omega arith) (4 * H) (block_numbers W view high)) (b ∙ a)
