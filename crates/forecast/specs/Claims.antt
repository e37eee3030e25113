-- What holds of every forecast: a level's uses are the counts of 02, b and f; a forecast's counts are the uses in the defined inverse, and its bytes are those that the inverse is lent.
use Rattle.std.specs.Prelude.{ℕ, ◌+◌, ◌-◌, ◌*◌, ◌≡◌, Bool, cond, List, ℤ, length}
use Rattle.lifting.specs.Program.{Core, SquareFilter, FourFilter}
use Rattle.lifting.specs.OperatorUses.{uses}
use Rattle.picture.specs.declared.size.Size.{Size}
use Rattle.picture.specs.Modes.{mode_of}
use Rattle.transform.specs.Level.{level}
use Rattle.picture.specs.Planes.{Planes}
use Rattle.transform.specs.Transform.{level_one, level_two}
use Rattle.picture.specs.Numbers.{inverse_number}
use Rattle.picture.specs.Sizes.{Shape}
use Rattle.forecast.specs.declared.LevelUses.{LevelUses}
use Rattle.forecast.specs.Forecast.{forecast_answer}
use Rattle.forecast.specs.Parts.{uses_in}

-- a level of p squares across and q down has p q cores and, when filtered, (p - 1)(q - 1) square filters and 4 (p - 1) + 4 (q - 1) four-number filters along its edges
-- and 4 at its corners (02, f)
abbrev pub level_counts : Bool → ℕ → ℕ → LevelUses
level_counts filtered p q =
    record {
      cores = p * q;
      square_filters = cond filtered ((p - 1) * (q - 1)) 0;
      four_filters = cond filtered (4 * (p - 1) + 4 * (q - 1) + 4) 0;
    }

abbrev pub LevelClaim : Type 0
LevelClaim = (filtered : Bool) (p q : ℕ) → uses_in (level filtered p q) ≡ level_counts filtered p q

-- the counts are the uses in the two level programs of the inverse; the bytes are four for each number of the slices that the inverse takes
pub record Forecasts (mode : ℕ) (size : Size) : Type 0 where
  pub done : (forecast_answer mode size).number ≡ 0
  pub cores : (forecast_answer mode size).cores ≡ uses Core (level_one (mode_of mode) size) + uses Core (level_two (mode_of mode) size)
  pub square-filters : (forecast_answer mode size).square_filters ≡ uses SquareFilter (level_one (mode_of mode) size) + uses SquareFilter (level_two (mode_of mode) size)
  pub four-filters : (forecast_answer mode size).four_filters ≡ uses FourFilter (level_one (mode_of mode) size) + uses FourFilter (level_two (mode_of mode) size)
  pub planes : (s : Planes) (samples : List ℤ) → inverse_number mode size s samples ≡ 0
      → (forecast_answer mode size).plane_bytes ≡ 4 * (length s.dc + length s.low + length s.high)
  pub samples : (s : Planes) (samples : List ℤ) → inverse_number mode size s samples ≡ 0 → (forecast_answer mode size).sample_bytes ≡ 4 * length samples

abbrev pub ForecastClaim : Type 0
ForecastClaim = (mode : ℕ) (size : Size) → Shape mode size → Forecasts mode size
