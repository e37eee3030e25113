-- A permitted mode and size pass the checks, so the answer is the work; the lengths that the inverse asks for follow from its checks, each of which has passed.
use Prim.Native.Nat.{ℕ, ◌*◌}
use mathlib.Core.Path.{◌≡◌, ap}
use mathlib.Core.List.{List, ◌++◌}
use native.Mathlib.Omega.{arith}
use lib.IntN.{ℤ}
use lib.ListN.{length}
use Rattle.picture.specs.declared.size.Size.{Size}
use Rattle.picture.specs.Sizes.{macroblocks, Shape}
use Rattle.picture.specs.Modes.{mode_of}
use Rattle.picture.specs.Planes.{Planes, Lengths}
use Rattle.picture.specs.Numbers.{shape_checks, plane_checks, sample_check, inverse_number}
use Rattle.picture.proofs.NumberLaws.{both_pass, settled-done}
use Rattle.picture.proofs.CheckLaws.{shape_passes, planes-fit, samples-fit}
use Rattle.forecast.specs.declared.Work.{Work}
use Rattle.forecast.specs.Forecast.{work_by, forecast_number, forecast_answer}
use Rattle.forecast.specs.Claims.{ForecastClaim}

answered : (mode : ℕ) (size : Size) → Shape mode size → forecast_answer mode size ≡ work_by (mode_of mode) size
unfolding forecast_number
answered mode size s = settled-done (forecast_number mode size) _ _ (shape_passes s)

-- the lengths that the inverse asks for
asked_lengths : (mode : ℕ) (size : Size) (s : Planes) (samples : List ℤ) → inverse_number mode size s samples ≡ 0
    → Lengths (macroblocks size) s × (length samples ≡ 256 * macroblocks size)
unfolding inverse_number
asked_lengths mode size s samples e =
    let n = macroblocks size in
    let lengths = (both_pass (shape_checks mode size) (plane_checks n s ++ sample_check n samples) e).1 in
    let (p, q) = both_pass (plane_checks n s) (sample_check n samples) lengths in
    (planes-fit n s p, samples-fit n samples q)

pub forecast_claim : ForecastClaim
unfolding work_by
forecast_claim mode size s =
    let e = answered mode size s in
    record {
      done = ap (λ (w : Work). w.number) e;
      cores = ap (λ (w : Work). w.cores) e;
      square-filters = ap (λ (w : Work). w.square_filters) e;
      four-filters = ap (λ (w : Work). w.four_filters) e;
      planes = λ t v k. let l = (asked_lengths mode size t v k).0 in omega (arith, ap (λ (w : Work). w.plane_bytes) e, l.dc, l.low, l.high);
      samples = λ t v k. omega (arith, ap (λ (w : Work). w.sample_bytes) e, (asked_lengths mode size t v k).1);
    }
