-- The claim over whole pictures, from its two halves. A row below the picture has no sample in it, so that nothing need be asked of the row.
use Prim.Native.Nat.{ℕ, zero, suc, ◌+◌, ◌*◌, ◌≤◌, ◌<◌}
use mathlib.Core.Path.{◌≡◌, refl, sym, ◌∙◌, ap}
use mathlib.Core.Bool.{Bool, true, false}
use mathlib.Core.List.{List, [], ◌∷◌}
use native.Mathlib.Omega.{arith}
use native.Mathlib.Decide.{dec_lt}
use native.Mathlib.Nat.{mul-le-mul}
use lib.ListN.{length}
use lib.IntN.{ℤ, pos}
use Rattle.lifting.specs.Program.{Program, at, run, ◌then◌, run_by}
use Rattle.lifting.proofs.Compose.{run_then}
use Rattle.lifting.proofs.Reverse.{length-put}
use Rattle.picture.specs.declared.size.Size.{Size}
use Rattle.picture.specs.Sizes.{macroblocks, Shape}
use Rattle.transform.specs.Level.{core_at, square_filter_at, four_filter_at, corner_filter_at, level}
use Rattle.picture.specs.Planes.{Planes}
use Rattle.transform.specs.Grids.{second_grid}
use Rattle.transform.specs.Transform.{inverse_by, inverse}
use Rattle.transform.specs.Windows.{InNoWindow}
use Rattle.transform.specs.Claims.{WholePictureClaim}
use Rattle.transform.proofs.Grid.{length-grid}
use Rattle.transform.proofs.Stages.{OfCores, OfFilters, of-cores, of-filters}
use Rattle.transform.proofs.OnePlanes.{one-set-of-planes}
use Rattle.transform.proofs.Windows.{sample_alike}

-- ---- a level keeps the length of what it works on, since each use stores where it read

abbrev KeepsLength : Program → Type 0
KeepsLength p = (v : List ℤ) → length (run p v) ≡ length v

keeps_then : (a b : Program) → KeepsLength a → KeepsLength b → KeepsLength (a then b)
keeps_then a b f g v = ap length (run_then a b v) ∙ g (run a v) ∙ f v

module _ (p q : ℕ) (wide : 0 < p) (tall : 0 < q) where
  keeps_cores : OfCores KeepsLength p q
  unfolding run_by core_at
  keeps_cores j i l m v = length-put _ _ v

  keeps_filters : OfFilters KeepsLength p q
  unfolding run_by square_filter_at four_filter_at corner_filter_at
  keeps_filters = record { squares = λ j i l m v. length-put _ _ v; rows = λ r i l m v. length-put _ _ v; columns = λ c j l m v. length-put _ _ v; corners = λ r c l m v. length-put _ _ v }

  pub length-level : (filtered : Bool) → KeepsLength (level filtered p q)
  unfolding level run_by
  length-level true = keeps_then _ _ (of-cores KeepsLength (λ v. refl) keeps_then p q keeps_cores) (of-filters KeepsLength (λ v. refl) keeps_then p q wide tall keeps_filters)
  length-level false = keeps_then _ _ (of-cores KeepsLength (λ v. refl) keeps_then p q keeps_cores) (λ v. refl)

beyond : (v : List ℤ) (i : ℕ) → length v ≤ i → at v i ≡ pos 0
beyond [] i h = refl
beyond (x ∷ v) zero h = absurd (omega arith)
beyond (x ∷ v) (suc i) h = beyond v i (omega arith)

module _ (mode : ℕ) (size : Size) (shape : Shape mode size) where
  pub length-inverse : (s : Planes) → length (inverse mode size s) ≡ 256 * macroblocks size
  unfolding inverse_by second_grid
  length-inverse s =
      let z = shape.sized in
      length-level (4 * size.width.0) (4 * size.height.0) (omega (arith, z.wide)) (omega (arith, z.tall)) _ _ ∙ length-grid _ _ _ ∙ omega arith

  alike : (s t : Planes) (y x : ℕ) → x < 16 * size.width.0 → InNoWindow mode size s t y x → Dec (y < 16 * size.height.0)
      → at (inverse mode size s) (y * (16 * size.width.0) + x) ≡ at (inverse mode size t) (y * (16 * size.width.0) + x)
  alike s t y x narrow out (yes low) =
      let fourfold : 16 * size.width.0 ≡ 4 * (4 * size.width.0) = omega arith in
      rw fourfold (sample_alike shape s t y x out low narrow)
  alike s t y x narrow out (no below) =
      let far : 16 * size.height.0 * (16 * size.width.0) ≤ y * (16 * size.width.0) = mul-le-mul (omega (arith, below)) (omega arith) in
      let i = y * (16 * size.width.0) + x in
      beyond (inverse mode size s) i (omega (arith, length-inverse s, far)) ∙ sym (beyond (inverse mode size t) i (omega (arith, length-inverse t, far)))

pub whole_pictures : WholePictureClaim
whole_pictures mode size shape =
    record {
      one_set = one-set-of-planes mode size shape.sized;
      windows = λ s t y x narrow out. alike mode size shape s t y x narrow out (dec_lt y (16 * size.height.0));
    }
