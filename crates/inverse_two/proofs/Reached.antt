-- Level two while it runs: the rows of blocks from y on are transformed, and the windows between them have run; the two rows of samples above those wait for the next row of windows.
use Prim.Native.Nat.{ℕ, ◌+◌, ◌*◌, ◌/◌, ◌≤◌, ◌<◌}
use mathlib.Core.Path.{◌≡◌, refl, sym, ◌∙◌, ap}
use mathlib.Core.Bool.{Bool}
use mathlib.Core.List.{List}
use native.Mathlib.Omega.{arith}
use native.Mathlib.Decide.{dec_lt}
use native.Mathlib.Nat.{mod-lt, div-div-eq-div-mul, div-lt_iff_lt-mul}
use lib.Arith.{digits_div}
use lib.ListN.{length, take}
use lib.Seq.{get_or-take}
use lib.IntN.{ℤ, pos}
use Rattle.lifting.specs.Program.{at, run}
use Rattle.lifting.proofs.Locality.{Agree}
use Rattle.transform.specs.Grids.{coefficients, block_order, square_of, coefficient_of, place, grid}
use Rattle.picture.proofs.Table.{same_lists}
use Rattle.transform.proofs.Geometry.{place-of-square, coefficient_low}
use Rattle.transform.proofs.Grid.{at-grid, length-grid}
use Rattle.inverse_levels.specs.Filled.{Filled}
use Rattle.inverse_levels.specs.Stages.{windows_if}
use Rattle.inverse_two.specs.Blocks.{block_numbers, cored, InRows}
use Rattle.inverse_two.proofs.Windows.{squares_if, Rows, windows-same, windows_off, squares_off}

-- G is the grid after all core transforms, and F the same after all square filters
pub record Reached (p q : ℕ) (old G F : List ℤ) (y : ℕ) (v : List ℤ) : Type 0 where
  pub len : length v ≡ length old
  pub done : (i : ℕ) → i / (4 * p) < 4 * q → 4 * y + 2 ≤ i / (4 * p) → at v i ≡ at F i
  pub wait : (i : ℕ) → i / (4 * p) < 4 * q → 4 * y ≤ i / (4 * p) → i / (4 * p) < 4 * y + 2 → at v i ≡ at G i
  pub rest : (i : ℕ) → i / (4 * p) < 4 * y → at v i ≡ at old i

pub reached_none : (p q : ℕ) (v G F : List ℤ) → Reached p q v G F q v
reached_none p q v G F = record { len = refl; done = λ i h l. absurd (omega arith); wait = λ i h l m. absurd (omega arith); rest = λ i h. refl }

module _ {W : ℕ} (wide : 0 < W) (H : ℕ) (old high : List ℤ) (long : length old ≡ 256 * (W * H)) where
  -- the grid of all blocks after their core transforms
  abbrev pub cored_grid : List ℤ
  cored_grid = grid (4 * W) (4 * H) (cored (block_numbers W (take (16 * (W * H)) old) high))

  across : 0 < 4 * W
  across = omega arith

  size : 256 * (W * H) ≡ 16 * (4 * W * (4 * H))
  size = omega arith

  square-row : (i : ℕ) → square_of (4 * W) i / (4 * W) ≡ i / (4 * (4 * W)) / 4
  square-row i = digits_div (i / (4 * (4 * W)) / 4) (omega (arith, mod-lt i {m = 4 * (4 * W)} (omega arith)))

  number-row : (b : ℕ) → b / (4 * (4 * W)) ≡ b / (4 * W) / 4
  number-row b = ap (λ (m : ℕ). b / m) wide_is ∙ sym (div-div-eq-div-mul b (4 * W) 4)
    where
      wide_is : 4 * (4 * W) ≡ 4 * W * 4
      wide_is = omega arith

  -- a sample of the rows of blocks that were filled last
  filled_is : (F : List ℤ) (b y : ℕ) {v u : List ℤ} → y ≤ 4 * H → Reached (4 * W) (4 * H) old cored_grid F y v → Filled (4 * W) (cored (block_numbers W v high)) v (InRows W b y) u
      → (i : ℕ) → 4 * b ≤ i / (4 * (4 * W)) → i / (4 * (4 * W)) < 4 * y → at u i ≡ at cored_grid i
  filled_is F b y {v} {u} low r t i h l =
      ap (at u) (sym there)
      ∙ t.done s k (omega (arith, square-row i), omega (arith, square-row i)) (coefficient_low (4 * W) i)
      ∙ ap (λ x. cored (λ t. coefficients x (λ j. at high (15 * block_order W t + j))) s k) number
      ∙ sym (at-grid across (4 * H) (cored (block_numbers W (take (16 * (W * H)) old) high)) s k inside (coefficient_low (4 * W) i))
      ∙ ap (at cored_grid) there
    where
      s : ℕ
      s = square_of (4 * W) i

      k : ℕ
      k = coefficient_of (4 * W) i

      there : place (4 * W) s k ≡ i
      there = place-of-square across i

      inside : s < 4 * W * (4 * H)
      inside = let m : s / (4 * W) < 4 * H = omega (arith, square-row i) in omega (arith, (div-lt_iff_lt-mul {k = 4 * W} across).0 m)

      number : at v s ≡ at (take (16 * (W * H)) old) s
      number = r.rest s (omega (arith, number-row s, square-row i)) ∙ sym (get_or-take (16 * (W * H)) old s (pos 0) (omega (arith, inside)))

  -- rows b to y of the blocks filled, and then n rows of windows from b on: all those that are now between transformed rows
  pub reached_next : (filtered : Bool) (b n y : ℕ) {v u w : List ℤ} → b < y → y ≤ 4 * H → b + n < 4 * H → (y < 4 * H → b + n ≡ y) → (y ≡ 4 * H → b + n + 1 ≡ 4 * H)
      → Reached (4 * W) (4 * H) old cored_grid (run (squares_if filtered (4 * W) (4 * H)) cored_grid) y v → Filled (4 * W) (cored (block_numbers W v high)) v (InRows W b y) u
      → w ≡ run (windows_if filtered (4 * W) b n) u → Reached (4 * W) (4 * H) old cored_grid (run (squares_if filtered (4 * W) (4 * H)) cored_grid) b w
  reached_next filtered b n y {v} {u} {w} first low room next last r t e = record {
    len = ap length e ∙ off.len ∙ t.len ∙ r.len;
    done = λ i h l. ap (λ x. at x i) e ∙ done i h l (dec_lt (row i) (4 * (b + n) + 2)) (dec_lt y (4 * H));
    wait = λ i h l m. unfiltered i (λ z. absurd (omega arith)) ∙ filled_is F b y low r t i l (omega arith);
    rest = λ i h. unfiltered i (λ z. absurd (omega arith)) ∙ t.rest i (λ z. absurd (omega (arith, square-row i))) ∙ r.rest i (omega arith);
  }
    where
      row : ℕ → ℕ
      row i = i / (4 * (4 * W))

      F : List ℤ
      F = run (squares_if filtered (4 * W) (4 * H)) cored_grid

      off : Agree (λ i. ¬ Rows (4 * W) b (b + n) i) (run (windows_if filtered (4 * W) b n) u) u
      off = windows_off filtered (4 * W) b n u

      unfiltered : (i : ℕ) → ¬ Rows (4 * W) b (b + n) i → at w i ≡ at u i
      unfiltered i h = ap (λ x. at x i) e ∙ off.same i h

      kept : (i : ℕ) → 4 * y ≤ row i → at u i ≡ at v i
      kept i h = t.rest i (λ z. absurd (omega (arith, square-row i)))

      cored-there : (i : ℕ) → Rows (4 * W) b (b + n) i → Dec (row i < 4 * y) → Dec (y < 4 * H) → at u i ≡ at cored_grid i
      cored-there i h (yes l) d = filled_is F b y low r t i (omega arith) l
      cored-there i h (no o) (yes d) = let f = next d in kept i (omega (arith, o)) ∙ r.wait i (omega arith) (omega (arith, o)) (omega arith)
      cored-there i h (no o) (no d) = let f = last (omega (arith, d)) in absurd (omega (arith, o))

      agree : Agree (Rows (4 * W) b (b + n)) u cored_grid
      agree = record { len = t.len ∙ r.len ∙ long ∙ size ∙ sym (length-grid (4 * W) (4 * H) _); same = λ i h. cored-there i h (dec_lt _ _) (dec_lt _ _) }

      done : (i : ℕ) → row i < 4 * (4 * H) → 4 * b + 2 ≤ row i → Dec (row i < 4 * (b + n) + 2) → Dec (y < 4 * H) → at (run (windows_if filtered (4 * W) b n) u) i ≡ at F i
      done i h l (yes m) d = windows-same (4 * W) (4 * H) b n room filtered agree i (l, m)
      done i h l (no o) (yes d) = let f = next d in off.same i (λ z. o z.1) ∙ kept i (omega (arith, o)) ∙ r.done i h (omega (arith, o))
      done i h l (no o) (no d) =
          let f = last (omega (arith, d)) in
          off.same i (λ z. o z.1)
          ∙ filled_is F b y low r t i (omega arith) (omega (arith, d))
          ∙ sym ((squares_off filtered (4 * W) (4 * H) cored_grid).same i (λ z. absurd (omega (arith, o))))

  -- all rows
  pub reached_all : (filtered : Bool) {v : List ℤ} → Reached (4 * W) (4 * H) old cored_grid (run (squares_if filtered (4 * W) (4 * H)) cored_grid) 0 v → v ≡ run (squares_if filtered (4 * W) (4 * H)) cored_grid
  reached_all filtered {v} r =
      same_lists (16 * (4 * W * (4 * H))) v (run (squares_if filtered (4 * W) (4 * H)) cored_grid) (r.len ∙ long ∙ size) (off.len ∙ length-grid (4 * W) (4 * H) _) (λ i h. here i (inside i h) (dec_lt _ 2))
    where
      off : Agree (λ i. ¬ ((2 ≤ i / (4 * (4 * W))) × (i / (4 * (4 * W)) + 2 < 4 * (4 * H)))) (run (squares_if filtered (4 * W) (4 * H)) cored_grid) cored_grid
      off = squares_off filtered (4 * W) (4 * H) cored_grid

      inside : (i : ℕ) → i < 16 * (4 * W * (4 * H)) → i / (4 * (4 * W)) < 4 * (4 * H)
      inside i h = (div-lt_iff_lt-mul {k = 4 * (4 * W)} (omega arith)).1 (omega arith)

      here : (i : ℕ) → i / (4 * (4 * W)) < 4 * (4 * H) → Dec (i / (4 * (4 * W)) < 2) → at v i ≡ at (run (squares_if filtered (4 * W) (4 * H)) cored_grid) i
      here i h (yes l) = r.wait i h (omega arith) (omega arith) ∙ sym (off.same i (λ z. absurd (omega arith)))
      here i h (no o) = r.done i h (omega (arith, o))
