-- Each square that is stored is one use more, of numbers that no use before it has changed.
use Prim.Native.Nat.{ℕ, ◌+◌, ◌*◌, ◌≤◌, ◌<◌}
use mathlib.Core.Path.{◌≡◌}
use mathlib.Core.List.{List}
use native.Mathlib.Omega.{arith}
use lib.IntN.{ℤ}
use borrow.Author.Rules.{rules}
use Rattle.lifting.specs.Program.{SquareFilter, run, get, put, each}
use Rattle.figures.specs.Figures.{square_filter}
use Rattle.transform.specs.Level.{square, square_filter_at}
use Rattle.lanes.proofs.Beside.{squares_by}
use Rattle.inverse_levels.proofs.Loops.{each_none}
use Rattle.inverse_levels.proofs.Side.{side_more}
use Rattle.inverse_levels.proofs.windows.four_windows.Goals as goal

-- n windows are filtered and stored, and one more is
module _ (w at : ℕ) (v out : List ℤ) (filtered : (l : ℕ) → l < 4 → get (square 16 (4 * l)) out ≡ run square_filter (get (square w (at + 4 * l)) v)) where
  more : (n : ℕ) (u u' : List ℤ) → n < 4 → 4 * n + 4 ≤ w → u ≡ run (each n (λ i. square_filter_at w (at + 4 * i))) v → u' ≡ put (square w (at + 4 * n)) (get (square 16 (4 * n)) out) u
      → u' ≡ run (each (n + 1) (λ i. square_filter_at w (at + 4 * i))) v
  unfolding square_filter_at
  more n u u' low room before stored = side_more SquareFilter square_filter w at n v _ _ room before (filtered n low) stored

pub returns-then-n-eq1 : goal.returns-then-n-eq1
returns-then-n-eq1 c =
    let a = c.args in
    let step = more a.w a.at a.grid.now c.each_square-out.result (squares_by (run square_filter) (λ b d post. search rules) c.each_square-out.ensures) in
    rw c.if-n-eq1.true (step 0 _ _ (omega arith) (omega arith) (each_none _ _) c.move_square.ensures)

pub returns-then-n-eq2 : goal.returns-then-n-eq2
returns-then-n-eq2 c =
    let a = c.args in
    let step = more a.w a.at a.grid.now c.each_square-out.result (squares_by (run square_filter) (λ b d post. search rules) c.each_square-out.ensures) in
    rw c.if-n-eq2.true (step 1 _ _ (omega arith) (omega arith) (step 0 _ _ (omega arith) (omega arith) (each_none _ _) c.move_square.ensures) c.move_square-2.ensures)

pub returns-then-n-eq3 : goal.returns-then-n-eq3
returns-then-n-eq3 c =
    let a = c.args in
    let step = more a.w a.at a.grid.now c.each_square-out.result (squares_by (run square_filter) (λ b d post. search rules) c.each_square-out.ensures) in
    let two = step 1 _ _ (omega arith) (omega arith) (step 0 _ _ (omega arith) (omega arith) (each_none _ _) c.move_square.ensures) c.move_square-2.ensures in
    rw c.if-n-eq3.true (step 2 _ _ (omega arith) (omega arith) two c.move_square-3.ensures)

pub returns : goal.returns
returns c =
    let a = c.args in
    let step = more a.w a.at a.grid.now c.each_square-out.result (squares_by (run square_filter) (λ b d post. search rules) c.each_square-out.ensures) in
    let two = step 1 _ _ (omega arith) (omega arith) (step 0 _ _ (omega arith) (omega arith) (each_none _ _) c.move_square.ensures) c.move_square-2.ensures in
    let e : a.n ≡ 4 = omega arith in
    rw e (step 3 _ _ (omega arith) (omega arith) (step 2 _ _ (omega arith) (omega arith) two c.move_square-3.ensures) c.move_square-4.ensures)
