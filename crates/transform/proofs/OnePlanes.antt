-- Exactly one set of planes gives a picture: inverse and forward undo each other, level by level, as a level's program and its undoing do
-- and as grids and planes do.
use Prim.Native.Nat.{ℕ, ◌*◌}
use mathlib.Core.Path.{◌≡◌, sym, ◌∙◌, ap, subst}
use mathlib.Core.List.{List}
use native.Mathlib.Omega.{arith}
use lib.Dec.{T}
use lib.IntN.{ℤ}
use Rattle.lifting.specs.Row.{Row}
use Rattle.lifting.specs.Valid.{valid}
use Rattle.lifting.proofs.Reverse.{undo-run, run-undo, row-run, row-undo}
use Rattle.picture.specs.declared.size.Size.{Size}
use Rattle.picture.specs.Sizes.{Sized, macroblocks}
use Rattle.picture.specs.Planes.{Planes, PlanesOf}
use Rattle.transform.specs.Grids.{first_grid, second_grid}
use Rattle.picture.specs.declared.mode.Mode.{Mode}
use Rattle.transform.specs.Transform.{level_one, level_two, quarter_by, inverse_by, second_undone, first_undone, forward_by}
use Rattle.picture.specs.Modes.{mode_of}
use Rattle.transform.specs.Claims.{OnePlanes}
use Rattle.transform.proofs.Grid.{dc-of-first, low-of-first, first_of_parts, view_of_second, high-of-second, second_of_parts, row_first, row-second, row-dc, row_low, row_view, row-high}
use Rattle.transform.proofs.Levels.{level-valid}

module _ (mode : Mode) (size : Size) (sized : Sized size) where
  abbrev W : ℕ
  W = size.width.0

  abbrev H : ℕ
  H = size.height.0

  pub first-valid : T (valid (16 * (W * H)) (level_one mode size))
  first-valid = level-valid W H mode.first sized.wide sized.tall

  pub second-valid : T (valid (256 * (W * H)) (level_two mode size))
  second-valid =
      let same : 16 * (4 * W * (4 * H)) ≡ 256 * (W * H) = omega arith in
      subst (λ (n : ℕ). T (valid n (level_two mode size))) same (level-valid (4 * W) (4 * H) mode.second (omega (arith, sized.wide)) (omega (arith, sized.tall)))

  -- ---- each call keeps 32-bit numbers

  pub row-quarter : {dc low : List ℤ} → Row (W * H) dc → Row (15 * (W * H)) low → Row (16 * (W * H)) (quarter_by mode size dc low)
  unfolding quarter_by
  row-quarter r t = row-run (level_one mode size) first-valid (row_first W H r t)

  pub grid-row : {s : Planes} → PlanesOf size s → Row (256 * (W * H)) (second_grid W H (quarter_by mode size s.dc s.low) s.high)
  grid-row r = row-second W H (row-quarter r.dc r.low) r.high

  pub row-inverse : {s : Planes} → PlanesOf size s → Row (256 * (W * H)) (inverse_by mode size s)
  unfolding inverse_by
  row-inverse r = row-run (level_two mode size) second-valid (grid-row r)

  pub row_second_undone : {samples : List ℤ} → Row (256 * (W * H)) samples → Row (256 * (W * H)) (second_undone mode size samples)
  unfolding second_undone
  row_second_undone r = row-undo (level_two mode size) second-valid r

  pub row_first_undone : {samples : List ℤ} → Row (256 * (W * H)) samples → Row (16 * (W * H)) (first_undone mode size samples)
  unfolding first_undone
  row_first_undone r = row-undo (level_one mode size) first-valid (row_view W H (row_second_undone r))

  pub planes-forward : {samples : List ℤ} → Row (256 * (W * H)) samples → PlanesOf size (forward_by mode size samples)
  unfolding forward_by
  planes-forward r =
      record { dc = row-dc W H (row_first_undone r); low = row_low W H (row_first_undone r); high = row-high W H (row_second_undone r) }

  -- ---- and undoes the other

  pub inverse-forward : {samples : List ℤ} → Row (256 * (W * H)) samples → inverse_by mode size (forward_by mode size samples) ≡ samples
  unfolding inverse_by quarter_by forward_by second_undone first_undone
  inverse-forward {samples} r =
      rw (first_of_parts sized.wide H (first_undone mode size samples) (row_first_undone r).len, run-undo (level_one mode size) first-valid (row_view W H (row_second_undone r)), second_of_parts sized.wide H (second_undone mode size samples) (row_second_undone r).len)
      (run-undo (level_two mode size) second-valid r)

  second_undone_lem : (s : Planes) → PlanesOf size s → second_undone mode size (inverse_by mode size s) ≡ second_grid W H (quarter_by mode size s.dc s.low) s.high
  unfolding inverse_by second_undone
  second_undone_lem s r = undo-run (level_two mode size) second-valid (grid-row r)

  first_undone_lem : (s : Planes) → PlanesOf size s → first_undone mode size (inverse_by mode size s) ≡ first_grid W H s.dc s.low
  unfolding first_undone quarter_by
  first_undone_lem s r =
      rw (second_undone_lem s r, view_of_second sized.wide H (quarter_by mode size s.dc s.low) s.high (row-quarter r.dc r.low).len)
      (undo-run (level_one mode size) first-valid (row_first W H r.dc r.low))

  pub forward-inverse : (s : Planes) → PlanesOf size s → forward_by mode size (inverse_by mode size s) ≡ s
  unfolding forward_by
  forward-inverse s r =
      rw (first_undone_lem s r, second_undone_lem s r, dc-of-first sized.wide H s.dc s.low r.dc.len, low-of-first sized.wide H s.dc s.low r.low.len, high-of-second sized.wide H (quarter_by mode size s.dc s.low) s.high r.high.len)

pub one-set-of-planes : (mode : ℕ) (size : Size) → Sized size → (samples : List ℤ) → Row (256 * macroblocks size) samples → OnePlanes mode size samples
one-set-of-planes mode size sized samples r =
    let m = mode_of mode in
    record { planes = planes-forward m size sized r; gives = inverse-forward m size sized r; only = λ s t e. sym (forward-inverse m size sized s t) ∙ ap (forward_by m size) e }
