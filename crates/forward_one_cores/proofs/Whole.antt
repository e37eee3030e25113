-- Where the core of each macroblock is undone, the cores of the level are: a macroblock's numbers are those of its square in the level's grid, and each square's core
-- is alone in its square.
use Prim.Native.Nat.{ℕ, ◌+◌, ◌*◌, ◌/◌, ◌%◌, ◌<◌}
use mathlib.Core.Path.{◌≡◌, sym, ◌∙◌, ap}
use mathlib.Core.List.{List}
use lib.ListN.{length}
use lib.IntN.{ℤ}
use Rattle.lifting.specs.Program.{at, get, undo, undo_by}
use Rattle.lifting.proofs.Reverse.{length-put}
use Rattle.lifting.proofs.Locality.{agree_refl}
use Rattle.figures.specs.Figures.{core}
use Rattle.transform.specs.Level.{cell, square, core_at, cores}
use Rattle.transform.specs.Grids.{coefficients, first_grid}
use Rattle.picture.proofs.Table.{at_table, table_same}
use Rattle.transform.proofs.Grid.{grid-is, length-grid, at_first}
use Rattle.transform.proofs.Squares.{square-places}
use Rattle.transform.proofs.Alone.{core_alone, core_undone_at}
use Rattle.forward_kernel.specs.Placed.{block_in}

module _ {W : ℕ} (wide : 0 < W) (H : ℕ) (tall : 0 < H) (dc low : List ℤ) where
  its : (m : ℕ) → m < W * H → get (square (4 * W) (cell W (4 * (m / W)) (4 * (m % W)))) (first_grid W H dc low) ≡ block_in dc low m
  unfolding block_in
  its m h = square-places W m (first_grid W H dc low) ∙ table_same 16 _ _ (λ k l. at_first wide H dc low m k h l)

  length_undone : length (undo (cores W H) (first_grid W H dc low)) ≡ 16 * (W * H)
  unfolding undo_by core_at first_grid
  length_undone =
      let v = first_grid W H dc low in
      ((core_alone W H 0 0 tall wide).undoes v v agree_refl).len ∙ length-put (square (4 * W) (cell W 0 0)) _ v ∙ length-grid W H _

  pub all_undone : (dc' low' : List ℤ) → ((m : ℕ) → m < W * H → block_in dc' low' m ≡ undo core (block_in dc low m)) → first_grid W H dc' low' ≡ undo (cores W H) (first_grid W H dc low)
  unfolding first_grid block_in
  all_undone dc' low' e =
      grid-is wide H _ (undo (cores W H) (first_grid W H dc low)) length_undone
      (λ m k h l.
      sym (at_table 16 (coefficients (at dc' m) (λ j. at low' (15 * m + j))) k l) ∙ ap (λ v. at v k) (e m h ∙ ap (undo core) (sym (its m h)))
      ∙ sym (core_undone_at wide H m h (first_grid W H dc low) (length-grid W H _) k l))
