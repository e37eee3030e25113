-- Where the core of each block is undone, the cores of the level are: a block's numbers are those of its square in the level's grid, and each square's core
-- is alone in its square.
use Prim.Native.Nat.{ℕ, ◌+◌, ◌*◌, ◌/◌, ◌%◌, ◌<◌}
use mathlib.Core.Path.{◌≡◌, refl, sym, ◌∙◌, ap}
use mathlib.Core.List.{List}
use native.Mathlib.Omega.{arith}
use lib.ListN.{length}
use lib.IntN.{ℤ}
use Rattle.lifting.specs.Program.{at, get, undo, undo_by}
use Rattle.lifting.proofs.Reverse.{length-put}
use Rattle.lifting.proofs.Locality.{agree_refl}
use Rattle.figures.specs.Figures.{core}
use Rattle.transform.specs.Level.{cell, square, core_at, cores}
use Rattle.picture.specs.Table.{table}
use Rattle.transform.specs.Grids.{grid, coefficients, block_order, first_grid, second_grid}
use Rattle.picture.proofs.Table.{at_table}
use Rattle.transform.proofs.Geometry.{block_of_order, order_low}
use Rattle.transform.proofs.Grid.{grid-is, at_first}
use Rattle.transform.proofs.Alone.{core_alone, core_undone_at}
use Rattle.forward_kernel.specs.Placed.{block_in}
use Rattle.forward_two_cores.specs.Blocks.{block_of, square_in}
use Rattle.forward_kernel.proofs.Stores.{same_block, at_block}

-- the numbers of square s of a grid p squares wide
abbrev square_of_grid : ℕ → ℕ → List ℤ → List ℤ
square_of_grid p s v = get (square (4 * p) (cell p (4 * (s / p)) (4 * (s % p)))) v

module _ {p : ℕ} (wide : 0 < p) (q : ℕ) (tall : 0 < q) where
  length_undone : (v : List ℤ) → length (undo (cores p q) v) ≡ length v
  unfolding undo_by core_at
  length_undone v = ((core_alone p q 0 0 tall wide).undoes v v agree_refl).len ∙ length-put (square (4 * p) (cell p 0 0)) _ v

  -- a grid of which each square is that of v with its core undone
  cores_undone : (f : ℕ → ℕ → ℤ) (v : List ℤ) → length v ≡ 16 * (p * q) → ((s k : ℕ) → s < p * q → k < 16 → f s k ≡ at (undo core (square_of_grid p s v)) k)
      → grid p q f ≡ undo (cores p q) v
  cores_undone f v l h = grid-is wide q f (undo (cores p q) v) (length_undone v ∙ l) (λ s k a b. h s k a b ∙ sym (core_undone_at wide q s a v l k b))

module _ {W : ℕ} (wide : 0 < W) (H : ℕ) (tall : 0 < H) where
  -- ---- level two: the blocks in the order of the high-pass plane

  -- the number that level one has at a block's place is one of its macroblock's
  view_is : (dc low : List ℤ) (b : ℕ) → b < 16 * (W * H) → at (first_grid W H dc low) b ≡ at (block_in dc low (block_order W b / 16)) (block_order W b % 16)
  view_is dc low b h =
      let t = block_order W b in
      let l = order_low wide H b h in
      ap (at (first_grid W H dc low)) (sym (block_of_order wide b)) ∙ at_first wide H dc low (t / 16) (t % 16) (omega arith) (omega arith)
      ∙ sym (at_block dc low (t / 16) (t % 16) (omega arith))

  -- its block's numbers, as the grid of level two takes them
  block-numbers : (dc low high : List ℤ) (b : ℕ) → b < 16 * (W * H) → table 16 (coefficients (at (first_grid W H dc low) b) (λ j. at high (15 * block_order W b + j))) ≡ block_of dc low high (block_order W b)
  unfolding block_of
  block-numbers dc low high b h = same_block _ _ (view_is dc low b h) (λ k l. refl)

  pub sample_block : (samples : List ℤ) (b : ℕ) → square_in W samples (block_order W b) ≡ square_of_grid (4 * W) b samples
  unfolding square_in
  sample_block samples b = rw (block_of_order wide b)

  pub second_undone_lem : (f : ℕ → List ℤ) (dc low high v : List ℤ) → length v ≡ 256 * (W * H) → ((b : ℕ) → b < 16 * (W * H) → f (block_order W b) ≡ square_of_grid (4 * W) b v)
      → ((t : ℕ) → t < 16 * (W * H) → block_of dc low high t ≡ undo core (f t)) → second_grid W H (first_grid W H dc low) high ≡ undo (cores (4 * W) (4 * H)) v
  unfolding second_grid
  second_undone_lem f dc low high v n same e =
      cores_undone {p = 4 * W} (omega arith) (4 * H) (omega arith) _ v (omega arith)
      (λ b k h l.
      let a : b < 16 * (W * H) = omega arith in
      sym (at_table 16 (coefficients (at (first_grid W H dc low) b) (λ j. at high (15 * block_order W b + j))) k l)
      ∙ ap (λ u. at u k) (block-numbers dc low high b a ∙ e (block_order W b) (order_low wide H b a) ∙ ap (undo core) (same b a)))
