-- Inside one cell of a stage, the stage does what the cell's own uses do, in both directions: every other use keeps to its own cell and so changes nothing there.
use Prim.Native.Nat.{ℕ, zero, suc, ◌+◌, ◌*◌, ◌/◌, ◌%◌, ◌<◌}
use mathlib.Core.Path.{◌≡◌, refl, sym, ◌∙◌, subst}
use mathlib.Core.Logic.{by_cases}
use mathlib.Core.List.{List}
use native.Mathlib.Omega.{arith}
use native.Mathlib.Decide.{ℕ_discrete}
use native.Mathlib.Nat.{mod-lt, div-lt_iff_lt-mul}
use lib.ListN.{length}
use lib.IntN.{ℤ}
use Rattle.lifting.specs.Program.{Program, end, ◌⨾◌, reorder, apply, Operator, Core, at, get, put, run, undo, ◌then◌, each, run_by, undo_by}
use Rattle.lifting.proofs.Between.{All, all_map, Like, like_then, none_left}
use Rattle.lifting.proofs.Locality.{Agree, agree_refl, use_inside, use_outside}
use Rattle.lifting.proofs.Reverse.{length-put}
use Rattle.figures.specs.Figures.{core, core_stages}
use Rattle.transform.specs.Level.{cell, square, core_at, cores}
use Rattle.transform.specs.Grids.{place}
use Rattle.transform.proofs.Squares.{square-is, own}
use Rattle.transform.proofs.Cells.{InCell, in_cell, core_in_cell}

-- a and b do the same inside P
abbrev pub Does : (ℕ → Type 0) → Program → Program → Type 0
Does P = Like (Agree P)

pub then_end : (a : Program) → a then end ≡ a
unfolding ◌then◌
then_end end = refl
then_end (l ⨾ a) = rw (then_end a)
then_end (reorder to back a) = rw (then_end a)
then_end (apply o s ps a) = rw (then_end a)

module _ (P : ℕ → Type 0) where
  pub nothing_then : (a b d : Program) → Does P a end → Does P b d → Does P (a then b) d
  unfolding ◌then◌
  nothing_then a b d f g = like_then (Agree P) a b end d f g

  pub then_nothing : (a b c : Program) → Does P a c → Does P b end → Does P (a then b) c
  then_nothing a b c f g = subst (Does P (a then b)) (then_end c) (like_then (Agree P) a b c end f g)

  -- the one of n that does something inside P
  pub one_of : (n k : ℕ) (f : ℕ → Program) (c : Program) → k < n → Does P (f k) c → ((i : ℕ) → i < n → (i ≡ k → ⊥) → Does P (f i) end) → Does P (each n f) c
  unfolding each
  one_of zero k f c h d others = absurd (omega arith)
  one_of (suc n) k f c h d others =
      by_cases (ℕ_discrete k n)
      (λ e.
      nothing_then (each n f) (f n) c (none_left (Agree P) n f (λ i l. others i (omega arith) (λ q. absurd (omega (arith, q, e))))) (subst (λ (i : ℕ). Does P (f i) c) e d))
      (λ o. then_nothing (each n f) (f n) c (one_of n k f c (omega (arith, o)) d (λ i l. others i (omega arith))) (others n (omega arith) (λ q. o (sym q))))

-- ---- uses of other cells

module _ (d p a b : ℕ) where
  elsewhere : (a' b' : ℕ) (o : Operator) (s : Program) (ps : List ℕ) → (a' ≡ a → b' ≡ b → ⊥) → All (InCell d p a' b') ps → Does (InCell d p a b) (apply o s ps end) end
  elsewhere a' b' o s ps n h = use_outside (InCell d p a b) o s ps (all_map ps (λ i m q. n (sym m.row ∙ q.row) (sym m.column ∙ q.column)) h)

-- ---- the cores

abbrev pub cores_of_row : ℕ → ℕ → Program
cores_of_row p j = each p (λ i. core_at (4 * p) (cell p (4 * j) (4 * i)))

-- inside one square of a row, the cores of the row are the square's own; outside the row, nothing
row_core_alone : (p j i : ℕ) → i < p → Does (InCell 0 p j i) (cores_of_row p j) (core_at (4 * p) (cell p (4 * j) (4 * i)))
unfolding core_at
row_core_alone p j i hi =
    let its = square (4 * p) (cell p (4 * j) (4 * i)) in
    one_of (InCell 0 p j i) p i _ (apply Core core its end) hi (use_inside (InCell 0 p j i) Core core its (core_in_cell p j i hi))
    (λ k l n. elsewhere 0 p j i j k Core core (square (4 * p) (cell p (4 * j) (4 * k))) (λ e f. n f) (core_in_cell p j k l))

pub other_rows : (P : ℕ → Type 0) (p j : ℕ) → ((k i : ℕ) → InCell 0 p j k i → ¬ P i) → Does P (cores_of_row p j) end
unfolding core_at
other_rows P p j h =
    none_left (Agree P) p _ (λ k l. let its = square (4 * p) (cell p (4 * j) (4 * k)) in use_outside P Core core its (all_map its (h k) (core_in_cell p j k l)))

pub core_alone : (p q j i : ℕ) → j < q → i < p → Does (InCell 0 p j i) (cores p q) (core_at (4 * p) (cell p (4 * j) (4 * i)))
unfolding cores core_at
core_alone p q j i hj hi =
    let its = square (4 * p) (cell p (4 * j) (4 * i)) in
    one_of (InCell 0 p j i) q j (cores_of_row p) (apply Core core its end) hj (row_core_alone p j i hi)
    (λ k l n. other_rows (InCell 0 p j i) p k (λ m x c d. n (sym c.row ∙ d.row)))

length-undo-core : (v : List ℤ) → length (undo core v) ≡ 16
unfolding undo_by core get
length-undo-core v = refl

length-run-core : (v : List ℤ) → length (run core v) ≡ 16
unfolding run_by core core_stages get
length-run-core v = simp length-put

-- the square s of the grid, in raster order, before or after its core
module _ {p : ℕ} (wide : 0 < p) (q s : ℕ) (low : s < p * q) where
  abbrev its : List ℕ
  its = square (4 * p) (cell p (4 * (s / p)) (4 * (s % p)))

  row_low : s / p < q
  row_low = (div-lt_iff_lt-mul wide).1 (omega arith)

  place_in_cell : (k : ℕ) → k < 16 → InCell 0 p (s / p) (s % p) (place p s k)
  place_in_cell k h =
      in_cell 0 p (s / p) (s % p) (4 * (s / p) + k / 4) (4 * (s % p) + k % 4) refl (omega (arith, mod-lt s wide)) (omega arith) (omega arith)

  stored : (xs v : List ℤ) → length xs ≡ 16 → length v ≡ 16 * (p * q) → (k : ℕ) → k < 16 → at (put its xs v) (place p s k) ≡ at xs k
  stored xs v e l k h = rw (square-is p (4 * (s / p)) (4 * (s % p))) (own wide q s low xs v e (omega (arith, l)) k h)

  pub core_undone_at : (v : List ℤ) → length v ≡ 16 * (p * q) → (k : ℕ) → k < 16 → at (undo (cores p q) v) (place p s k) ≡ at (undo core (get its v)) k
  unfolding undo_by core_at
  core_undone_at v l k h =
      ((core_alone p q (s / p) (s % p) row_low (mod-lt s wide)).undoes v v agree_refl).same (place p s k) (place_in_cell k h) ∙ stored (undo core (get its v)) v (length-undo-core (get its v)) l k h

  pub core-run-at : (v : List ℤ) → length v ≡ 16 * (p * q) → (k : ℕ) → k < 16 → at (run (cores p q) v) (place p s k) ≡ at (run core (get its v)) k
  unfolding run_by core_at
  core-run-at v l k h =
      ((core_alone p q (s / p) (s % p) row_low (mod-lt s wide)).runs v v agree_refl).same (place p s k) (place_in_cell k h) ∙ stored (run core (get its v)) v (length-run-core (get its v)) l k h
