-- The levels and the whole transforms do not wrap where the numbers are not too large: each stage grows the numbers as one of its uses does, and each level as its stages do.
use Prim.Native.Nat.{ℕ, zero, suc, ◌+◌, ◌*◌, ◌/◌, ◌≤◌, ◌<◌}
use mathlib.Core.Path.{◌≡◌, refl}
use mathlib.Core.Bool.{Bool, true, false}
use mathlib.Core.List.{List, [], ◌∷◌}
use native.Mathlib.Omega.{arith}
use lib.IntN.{ℤ, nat_abs}
use Rattle.lifting.specs.Program.{Program, end, Core, SquareFilter, FourFilter, run, undo, run_by, undo_by, ◌then◌}
use Rattle.lifting.specs.Wraps.{wraps, undo_wraps, Within, Reaches}
use Rattle.lifting.proofs.Tests.{no_or}
use Rattle.lifting.proofs.Compose.{run_then, undo_then}
use Rattle.lifting.proofs.NoWrap.{wraps_then, undo_wraps_then}
use Rattle.lifting.proofs.Forms.{within_le}
use Rattle.lifting.proofs.Calm.{Calm, run_joins, undo_joins, run_use, undo_use}
use Rattle.figures.specs.Figures.{core, square_filter, four_filter}
use Rattle.figures.proofs.Growth.{core_grows, square_filter_grows, four_filter_grows, core_undone_grows, square_filter_undone_grows, four_filter_undone_grows}
use Rattle.transform.specs.Level.{square, core_at, square_filter_at, cores, filters, level}
use Rattle.picture.specs.Planes.{Planes}
use Rattle.picture.specs.Table.{table}
use Rattle.transform.specs.Grids.{grid, coefficients, first_grid, second_grid, view_of}
use Rattle.picture.specs.declared.size.Size.{Size}
use Rattle.picture.specs.declared.mode.Mode.{Mode}
use Rattle.picture.specs.Modes.{mode_of}
use Rattle.picture.specs.Sizes.{Sized}
use Rattle.transform.specs.Transform.{quarter_by, second_undone}
use Rattle.transform.specs.Wraps.{quarter_wraps_by, inverse_wraps_by, forward_wraps_by, PlanesWithin, InverseDoesNotWrap, ForwardDoesNotWrap}
use Rattle.transform.proofs.Apart.{of-cores, of-filters}

-- ---- what a program, run or undone, makes of numbers of at most B: nothing wraps, and they become at most C

abbrev pub Runs : ℕ → ℕ → Program → Type 0
Runs B C a = (v : List ℤ) → Within B v → (wraps a v ≡ false) × Within C (run a v)

abbrev pub Undoes : ℕ → ℕ → Program → Type 0
Undoes B C a = (v : List ℤ) → Within B v → (undo_wraps a v ≡ false) × Within C (undo a v)

runs_then : {B C E : ℕ} (a b : Program) → Runs B C a → Runs C E b → Runs B E (a then b)
runs_then a b f g v h =
    let (k, l) = f v h in
    let (m, n) = g (run a v) l in
    rw (wraps_then a b v, run_then a b v) (no_or k m, n)

undoes_then : {B C E : ℕ} (a b : Program) → Undoes B C b → Undoes C E a → Undoes B E (a then b)
undoes_then a b f g v h =
    let (k, l) = f v h in
    let (m, n) = g (undo b v) l in
    rw (undo_wraps_then a b v, undo_then a b v) (no_or k m, n)

-- ---- stages

of-calm : {B C : ℕ} {w : List ℤ → Bool} {f : List ℤ → List ℤ} → B ≤ C → Calm B C (λ i. Unit {0}) w f → (v : List ℤ) → Within B v → (w v ≡ false) × Within C (f v)
of-calm l c v h = (c.calm (within_le l h) (λ i s. h.within i), c.most (within_le l h) (λ i s. h.within i))

module _ {B C : ℕ} (l : B ≤ C) (p q : ℕ) where
  cores-run : Reaches 16 B C (wraps core) (run core) → Runs B C (cores p q)
  unfolding core_at square
  cores-run g = of-calm l (of-cores (run_joins B C) p q (λ S w i s. run_use Core core (square w i) g refl s))

  cores_undone : Reaches 16 B C (undo_wraps core) (undo core) → Undoes B C (cores p q)
  unfolding core_at square
  cores_undone g = of-calm l (of-cores (undo_joins B C) p q (λ S w i s. undo_use Core core (square w i) g refl s))

  module _ (wide : 0 < p) (tall : 0 < q) where
    filters-run : Reaches 16 B C (wraps square_filter) (run square_filter) → Reaches 4 B C (wraps four_filter) (run four_filter) → Runs B C (filters p q)
    unfolding square_filter_at square
    filters-run g k = of-calm l (of-filters (run_joins B C) p q
        (record {
          squares = λ S w i s. run_use SquareFilter square_filter (square w i) g refl s;
          fours = λ S a b c d s. run_use FourFilter four_filter (a ∷ b ∷ c ∷ d ∷ []) k refl s;
        }) wide tall)

    filters-undone : Reaches 16 B C (undo_wraps square_filter) (undo square_filter) → Reaches 4 B C (undo_wraps four_filter) (undo four_filter) → Undoes B C (filters p q)
    unfolding square_filter_at square
    filters-undone g k = of-calm l (of-filters (undo_joins B C) p q
        (record {
          squares = λ S w i s. undo_use SquareFilter square_filter (square w i) g refl s;
          fours = λ S a b c d s. undo_use FourFilter four_filter (a ∷ b ∷ c ∷ d ∷ []) k refl s;
        }) wide tall)

-- ---- levels

runs_end : {B : ℕ} → Runs B B end
unfolding wraps run_by
runs_end v h = (refl, h)

undoes-end : {B : ℕ} → Undoes B B end
unfolding undo_wraps undo_by
undoes-end v h = (refl, h)

-- what a level makes of numbers of at most B, run and undone
abbrev pub level_bound : Bool → ℕ → ℕ
level_bound true B = 41 * (15 * B / 4 + 28) / 16 + 64
level_bound false B = 15 * B / 4 + 28

abbrev pub undone_bound : Bool → ℕ → ℕ
undone_bound true B = 4 * (41 * B / 16 + 64) / 1 + 12
undone_bound false B = 4 * B / 1 + 12

reach_more : {n B C E : ℕ} {w : List ℤ → Bool} {f : List ℤ → List ℤ} → C ≤ E → Reaches n B C w f → Reaches n B E w f
reach_more l g = record { calm = λ e h. g.calm e h; most = λ e h. within_le l (g.most e h) }

module _ {B : ℕ} (p q : ℕ) (wide : 0 < p) (tall : 0 < q) where
  pub level-run : (filtered : Bool) → B ≤ 49800000 → Runs B (level_bound filtered B) (level filtered p q)
  unfolding level
  level-run true l =
      let C = 15 * B / 4 + 28 in
      runs_then (cores p q) (filters p q) (cores-run (omega arith) p q (core_grows B (omega arith)))
      (filters-run (omega arith) p q wide tall (square_filter_grows C (omega arith)) (reach_more (omega arith) (four_filter_grows C (omega arith))))
  level-run false l = runs_then (cores p q) end (cores-run (omega arith) p q (core_grows B (omega arith))) runs_end

  pub level_undone : (filtered : Bool) → B ≤ 50700000 → Undoes B (undone_bound filtered B) (level filtered p q)
  unfolding level
  level_undone true l =
      let C = 41 * B / 16 + 64 in
      undoes_then (cores p q) (filters p q)
      (filters-undone (omega arith) p q wide tall (square_filter_undone_grows B (omega arith)) (reach_more (omega arith) (four_filter_undone_grows B (omega arith))))
      (cores_undone (omega arith) p q (core_undone_grows C (omega arith)))
  level_undone false l = undoes_then (cores p q) end undoes-end (cores_undone (omega arith) p q (core_undone_grows B (omega arith)))

-- up to 2^25
module _ (filtered : Bool) (p q : ℕ) (wide : 0 < p) (tall : 0 < q) (v : List ℤ) (h : Within 33554432 v) where
  pub level-calm : wraps (level filtered p q) v ≡ false
  level-calm = (level-run p q wide tall filtered (omega arith) v h).0

  pub level_undone_calm : undo_wraps (level filtered p q) v ≡ false
  level_undone_calm = (level_undone p q wide tall filtered (omega arith) v h).0

-- ---- grids and planes

module _ {B : ℕ} where
  pub within-table : (n : ℕ) (f : ℕ → ℤ) → ((i : ℕ) → i < n → nat_abs (f i) ≤ B) → Within B (table n f)
  unfolding table
  within-table zero f h = record { within = λ i. omega arith }
  within-table (suc n) f h = record { within = elim [ zero ↦ h 0 (omega arith) | suc i ↦ (within-table n (λ j. f (suc j)) (λ j l. h (suc j) (omega arith))).within i ] }

  within-coefficients : (x : ℤ) (f : ℕ → ℤ) → nat_abs x ≤ B → ((k : ℕ) → nat_abs (f k) ≤ B) → (k : ℕ) → nat_abs (coefficients x f k) ≤ B
  within-coefficients x f h l zero = h
  within-coefficients x f h l (suc k) = l k

  within-grid : (p q : ℕ) (f : ℕ → ℕ → ℤ) → ((s k : ℕ) → nat_abs (f s k) ≤ B) → Within B (grid p q f)
  unfolding grid
  within-grid p q f h = within-table _ _ (λ i l. h _ _)

  pub first-within : (W H : ℕ) {dc low : List ℤ} → Within B dc → Within B low → Within B (first_grid W H dc low)
  unfolding first_grid
  first-within W H h l = within-grid W H _ (λ s k. within-coefficients _ _ (h.within s) (λ j. l.within _) k)

  pub second-within : (W H : ℕ) {view high : List ℤ} → Within B view → Within B high → Within B (second_grid W H view high)
  unfolding second_grid
  second-within W H h l = within-grid (4 * W) (4 * H) _ (λ s k. within-coefficients _ _ (h.within s) (λ j. l.within _) k)

  within_view : (W H : ℕ) {g : List ℤ} → Within B g → Within B (view_of W H g)
  unfolding view_of
  within_view W H h = within-table _ _ (λ i l. h.within _)

-- ---- the whole transforms, for numbers of at most 2^22

level_more : (f : Bool) (B : ℕ) → B ≤ level_bound f B
level_more true B = omega arith
level_more false B = omega arith

level-low : (f : Bool) (B : ℕ) → B ≤ 4194304 → level_bound f B ≤ 49800000
level-low true B l = omega arith
level-low false B l = omega arith

undone_low : (f : Bool) (B : ℕ) → B ≤ 4194304 → undone_bound f B ≤ 50700000
undone_low true B l = omega arith
undone_low false B l = omega arith

module _ {B : ℕ} (l : B ≤ 4194304) (mode : Mode) (size : Size) (sized : Sized size) where
  abbrev W : ℕ
  W = size.width.0

  abbrev H : ℕ
  H = size.height.0

  quarter-calm : {dc low : List ℤ} → Within B dc → Within B low
      → (quarter_wraps_by mode size dc low ≡ false) × Within (level_bound mode.first B) (quarter_by mode size dc low)
  unfolding quarter_wraps_by quarter_by
  quarter-calm {dc} {low} h k = level-run W H sized.wide sized.tall mode.first (omega arith) (first_grid W H dc low) (first-within W H h k)

  inverse-calm : (s : Planes) → PlanesWithin B s → inverse_wraps_by mode size s ≡ false
  unfolding inverse_wraps_by
  inverse-calm s h =
      let (a, b) = quarter-calm h.dc h.low in
      no_or a (level-run (4 * W) (4 * H) (omega (arith, sized.wide)) (omega (arith, sized.tall)) mode.second (level-low mode.first B l) _ (second-within W H b (within_le (level_more mode.first B) h.high))).0

  forward-calm : (samples : List ℤ) → Within B samples → forward_wraps_by mode size samples ≡ false
  unfolding forward_wraps_by second_undone
  forward-calm samples h =
      let (a, b) = level_undone (4 * W) (4 * H) (omega (arith, sized.wide)) (omega (arith, sized.tall)) mode.second (omega arith) samples h in
      no_or a (level_undone W H sized.wide sized.tall mode.first (undone_low mode.second B l) _ (within_view W H b)).0

pub inverse_does_not_wrap : InverseDoesNotWrap
inverse_does_not_wrap mode size shape s h = inverse-calm (omega arith) (mode_of mode) size shape.sized s h

pub forward_does_not_wrap : ForwardDoesNotWrap
forward_does_not_wrap mode size shape samples h = forward-calm (omega arith) (mode_of mode) size shape.sized samples h
