-- A forecast by its mode: the counts of each level, of which the mode filters none, the second or both.
use Prim.Native.Nat.{ℕ, zero, suc, ◌+◌, ◌*◌}
use mathlib.Core.Path.{◌≡◌, sym, ap, ◌∙◌}
use mathlib.Core.Bool.{Bool, cond}
use native.Mathlib.Omega.{arith}
use lib.Dec.{leb}
use Rattle.lifting.specs.Program.{Core, SquareFilter, FourFilter}
use Rattle.lifting.specs.OperatorUses.{uses}
use Rattle.picture.specs.declared.size.Size.{Size}
use Rattle.picture.specs.Modes.{mode_of}
use Rattle.transform.specs.Level.{level}
use Rattle.picture.specs.Numbers.{settled}
use Rattle.picture.proofs.NumberLaws.{settled-done, settled-refused}
use Rattle.forecast.specs.declared.Work.{Work}
use Rattle.forecast.specs.Forecast.{work_by, no_work, forecast_number, forecast_answer}
use Rattle.forecast.proofs.Levels.{level_claim}
use Rattle.clients.specs.Work.{inner, border, Forecast, NoForecast}
use Rattle.clients.specs.Faults.{ForecastFaults}
use Rattle.clients.proofs.FaultLaws.{no_fault, shape_faults_lem}

module _ (mode : ℕ) (size : Size) where
  abbrev W : ℕ
  W = size.width.0

  abbrev H : ℕ
  H = size.height.0

  -- what a mode filters, for counts a of level one and b of level two
  abbrev filtered : ℕ → ℕ → ℕ → ℕ
  filtered a b m = cond (leb 2 m) a 0 + cond (leb 1 m) b 0

  cores-of : (b : Bool) (p q : ℕ) → uses Core (level b p q) ≡ p * q
  cores-of b p q = ap (λ u. u.cores) (level_claim b p q)

  squares-of : (b : Bool) (p q : ℕ) → uses SquareFilter (level b p q) ≡ cond b (inner p q) 0
  squares-of b p q = ap (λ u. u.square_filters) (level_claim b p q)

  fours_of : (b : Bool) (p q : ℕ) → uses FourFilter (level b p q) ≡ cond b (border p q) 0
  fours_of b p q = ap (λ u. u.four_filters) (level_claim b p q)

  both_of : {a b c d : ℕ} → a ≡ c → b ≡ d → a + b ≡ c + d
  both_of e f = cc

  module _ {r : Work} (e : r ≡ work_by (mode_of mode) size) where
    squares : r.square_filters ≡ filtered (inner W H) (inner (4 * W) (4 * H)) mode
    unfolding work_by
    squares = ap (λ (w : Work). w.square_filters) e ∙ both_of (squares-of (leb 2 mode) W H) (squares-of (leb 1 mode) (4 * W) (4 * H))

    fours : r.four_filters ≡ filtered (border W H) (border (4 * W) (4 * H)) mode
    unfolding work_by
    fours = ap (λ (w : Work). w.four_filters) e ∙ both_of (fours_of (leb 2 mode) W H) (fours_of (leb 1 mode) (4 * W) (4 * H))

    zero-and : (n : ℕ) → 0 + n ≡ n
    zero-and n = omega arith

    pub forecasts : Forecast mode size r
    unfolding work_by
    forecasts =
        record {
          cores = ap (λ (w : Work). w.cores) e ∙ both_of (cores-of (leb 2 mode) W H) (cores-of (leb 1 mode) (4 * W) (4 * H));
          bytes_of_planes = ap (λ (w : Work). w.plane_bytes) e;
          bytes_of_samples = ap (λ (w : Work). w.sample_bytes) e;
          none = λ h. (squares ∙ ap (filtered (inner W H) (inner (4 * W) (4 * H))) h, fours ∙ ap (filtered (border W H) (border (4 * W) (4 * H))) h);
          one = λ h. (squares ∙ ap (filtered (inner W H) (inner (4 * W) (4 * H))) h ∙ zero-and _, fours ∙ ap (filtered (border W H) (border (4 * W) (4 * H))) h ∙ zero-and _);
          both = λ h. (squares ∙ ap (filtered (inner W H) (inner (4 * W) (4 * H))) h, fours ∙ ap (filtered (border W H) (border (4 * W) (4 * H))) h);
        }

  pub forecast-faults : ForecastFaults mode size (forecast_number mode size)
  unfolding forecast_number
  forecast-faults = record { faults = (shape_faults_lem mode size no_fault).told }

  -- the answer, by its number
  module _ {r : Work} (e : r ≡ forecast_answer mode size) where
    answered : (k : ℕ) → r ≡ settled k (work_by (mode_of mode) size) (no_work k) → r.number ≡ k
    unfolding work_by
    answered zero q = ap (λ (w : Work). w.number) q
    answered (suc k) q = ap (λ (w : Work). w.number) q

    pub numbered : r.number ≡ forecast_number mode size
    numbered = answered (forecast_number mode size) e

    pub done : r.number ≡ 0 → Forecast mode size r
    done z = forecasts (e ∙ settled-done (forecast_number mode size) _ _ (sym numbered ∙ z))

    nothing : (k : ℕ) → r ≡ no_work k → NoForecast r
    nothing k q =
        record {
          cores = ap (λ (w : Work). w.cores) q;
          square-filters = ap (λ (w : Work). w.square_filters) q;
          four-filters = ap (λ (w : Work). w.four_filters) q;
          bytes_of_planes = ap (λ (w : Work). w.plane_bytes) q;
          bytes_of_samples = ap (λ (w : Work). w.sample_bytes) q;
        }

    pub refused : (r.number ≡ 0 → ⊥) → NoForecast r
    refused n = nothing (forecast_number mode size) (e ∙ settled-refused (forecast_number mode size) _ _ (λ z. n (numbered ∙ z)))
