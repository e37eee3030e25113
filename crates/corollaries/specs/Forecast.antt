-- What a forecast says of the inverse that follows it (02, b).
use Rattle.std.specs.Prelude.{ℕ, ◌+◌, ◌*◌, ◌≡◌, List, ℤ, length}
use Rattle.lifting.specs.Program.{Operator, Core, SquareFilter, FourFilter}
use Rattle.lifting.specs.OperatorUses.{uses}
use Rattle.picture.specs.Modes.{mode_of}
use Rattle.picture.specs.Planes.{Planes}
use Rattle.transform.specs.Transform.{level_one, level_two}
use Rattle.picture.specs.Numbers.{inverse_number}
use Rattle.forecast.specs.Forecast.{forecast_answer}
use Rattle.corollaries.specs.Sizes.{of, EverySize}

-- the uses of an operator in the inverse: level one and level two
abbrev pub uses_of : Operator → ℕ → ℕ → ℕ → ℕ
uses_of o mode W H = uses o (level_one (mode_of mode) (of W H)) + uses o (level_two (mode_of mode) (of W H))

abbrev pub CountsAreUses : Type 0
CountsAreUses =
    EverySize (λ mode W H.
    ((forecast_answer mode (of W H)).number ≡ 0)
    × ((forecast_answer mode (of W H)).cores ≡ uses_of Core mode W H)
    × ((forecast_answer mode (of W H)).square_filters ≡ uses_of SquareFilter mode W H)
    × ((forecast_answer mode (of W H)).four_filters ≡ uses_of FourFilter mode W H))

-- the bytes are those of the slices that the inverse takes, four for each number
abbrev pub BytesAreLent : Type 0
BytesAreLent =
    EverySize (λ mode W H. (s : Planes) (samples : List ℤ) → inverse_number mode (of W H) s samples ≡ 0
    → ((forecast_answer mode (of W H)).plane_bytes ≡ 4 * (length s.dc + length s.low + length s.high))
    × ((forecast_answer mode (of W H)).sample_bytes ≡ 4 * length samples))
