-- Four blocks through the lanes: what is held in each is what its block has, and what is moved out are their core transforms.
use Prim.Native.Nat.{ℕ, zero, suc, ◌+◌, ◌*◌, ◌<◌}
use mathlib.Core.Path.{◌≡◌, ◌∙◌, ap}
use mathlib.Core.List.{List, [], ◌∷◌}
use native.Mathlib.Omega.{arith}
use lib.ListN.{length, get_or}
use lib.IntN.{ℤ}
use Rattle.lifting.specs.Program.{at, get, run, run_by}
use Rattle.lifting.proofs.Reverse.{length-put}
use Rattle.figures.specs.Block.{four, flat}
use Rattle.figures.specs.Figures.{core, core_stages}
use Rattle.figures.proofs.Parts.{place}
use Rattle.transform.specs.Level.{strip, square}
use Rattle.picture.specs.Table.{table}
use Rattle.transform.specs.Grids.{coefficients}
use Rattle.lanes.specs.Lanes.{rows_at, InLanes, Placed}
use Rattle.lanes.proofs.Rows.{four-numbers, joined}
use Rattle.inverse_two.specs.Blocks.{block_from, block_in_lane, FourBlocks}

pub length-core : (v : List ℤ) → length (run core v) ≡ 16
unfolding run_by core core_stages get
length-core v = simp length-put

top-row : {x x' y y' z z' w w' : ℤ} → x ≡ x' → y ≡ y' → z ≡ z' → w ≡ w' → x ∷ y ∷ z ∷ w ∷ [] ≡ x' ∷ y' ∷ z' ∷ w' ∷ []
top-row a b c d = rw (a, b, c, d)

-- a block put together from its coefficient 0 and the four rows m of a lane
pub block_read : (z z' x y w : ℤ) (m : List (List ℤ)) (a b c d : List ℤ) (i : ℕ) → z ≡ z' → x ≡ at (get_or m 0 []) 0 → y ≡ at (get_or m 0 []) 1 → w ≡ at (get_or m 0 []) 2 → flat m ≡ rows_at a b c d i
    → flat ((z ∷ x ∷ y ∷ w ∷ []) ∷ get_or m 1 [] ∷ get_or m 2 [] ∷ get_or m 3 [] ∷ []) ≡ block_from z' a b c d i
unfolding flat get
block_read z z' x y w m a b c d i o e f g h =
    rw (o, e, f, g) (ap (λ l. z' ∷ at l 0 ∷ at l 1 ∷ at l 2 ∷ at l 4 ∷ at l 5 ∷ at l 6 ∷ at l 7 ∷ at l 8 ∷ at l 9 ∷ at l 10 ∷ at l 11 ∷ at l 12 ∷ at l 13 ∷ at l 14 ∷ at l 15 ∷ []) h)

-- the numbers of level one, and the high-pass numbers of each block
module _ (grid high zeros : List ℤ) {a b c d : List ℤ} (m from : ℕ) (read : four zeros ≡ get (strip 1 m) grid)
    (p : InLanes high 15 from a) (q : InLanes high 15 (from + 3) b) (r : InLanes high 15 (from + 7) c) (s : InLanes high 15 (from + 11) d) where
  number : (l : ℕ) → l < 4 → at zeros l ≡ at grid (m + l)
  unfolding get
  number zero h = place 0 read ∙ ap (at grid) (omega arith)
  number (suc zero) h = place 1 read
  number (suc (suc zero)) h = place 2 read ∙ ap (at grid) (omega arith)
  number (suc (suc (suc zero))) h = place 3 read ∙ ap (at grid) (omega arith)
  number (suc (suc (suc (suc l)))) h = absurd (omega arith)

  coefficients_held : (l : ℕ) → l < 4 → block_in_lane zeros a b c d l ≡ table 16 (coefficients (at grid (m + l)) (λ k. at high (from + 15 * l + k)))
  unfolding get table
  coefficients_held l h =
      joined
      (top-row (number l h) (place 0 (p.own l h) ∙ ap (at high) (omega arith)) (place 1 (p.own l h)) (place 2 (p.own l h) ∙ ap (at high) (omega arith)))
      (q.own l h ∙ four-numbers high (omega arith) (omega arith) (omega arith) (omega arith))
      (r.own l h ∙ four-numbers high (omega arith) (omega arith) (omega arith) (omega arith))
      (s.own l h ∙ four-numbers high (omega arith) (omega arith) (omega arith) (omega arith))

  pub four-cored : {out u : List ℤ} (w first : ℕ) → ((l : ℕ) → l < 4 → get (square 16 (4 * l)) out ≡ run core (block_in_lane zeros a b c d l)) → Placed out grid w first u → FourBlocks grid high w first m from u
  four-cored w first cores placed = record {
    len = placed.len;
    own = λ l h. placed.own l h ∙ cores l h ∙ ap (run core) (coefficients_held l h);
    rest = placed.rest;
  }
