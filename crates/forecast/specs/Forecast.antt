-- The forecast of a picture: how often its defined inverse uses each operator of a level, and its bytes (02, b).
use Rattle.std.specs.Prelude.{ℕ, ◌+◌, ◌*◌, ◌≡◌}
use Rattle.lifting.specs.Program.{Operator, Core, SquareFilter, FourFilter}
use Rattle.lifting.specs.OperatorUses.{uses}
use Rattle.picture.specs.declared.mode.Mode.{Mode}
use Rattle.picture.specs.declared.size.Size.{Size}
use Rattle.picture.specs.declared.refusals.Refusal.{Refusal}
use Rattle.picture.specs.Refusals.{number_of_refusal}
use Rattle.picture.specs.Sizes.{macroblocks}
use Rattle.picture.specs.Modes.{mode_of}
use Rattle.transform.specs.Transform.{level_one, level_two}
use Rattle.picture.specs.Numbers.{first_of, settled, shape_checks}
use Rattle.forecast.specs.declared.Work.{Work}

-- the uses of an operator in the defined inverse: those in level one and those in level two
abbrev pub inverse_uses : Operator → Mode → Size → ℕ
inverse_uses o mode size = uses o (level_one mode size) + uses o (level_two mode size)

-- the bytes of the planes, and those of the samples
abbrev pub bytes : Size → ℕ
bytes size = 1024 * macroblocks size

-- done: how often the inverse uses each operator of a level, and the bytes
unfoldable pub work_by : Mode → Size → Work
work_by mode size =
    record {
      number = 0;
      cores = inverse_uses Core mode size;
      square_filters = inverse_uses SquareFilter mode size;
      four_filters = inverse_uses FourFilter mode size;
      plane_bytes = bytes size;
      sample_bytes = bytes size;
    }

-- refused: every figure is zero
abbrev pub no_work : ℕ → Work
no_work number = record { number = number; cores = 0; square_filters = 0; four_filters = 0; plane_bytes = 0; sample_bytes = 0 }

-- what a refusal is turned into
abbrev pub GivesNoWork : Refusal → Work → Type 0
GivesNoWork refusal work = work ≡ no_work (number_of_refusal refusal)

-- 1, 2, 3
unfoldable pub forecast_number : ℕ → Size → ℕ
forecast_number mode size = first_of (shape_checks mode size)

abbrev pub forecast_answer : ℕ → Size → Work
forecast_answer mode size = let k = forecast_number mode size in settled k (work_by (mode_of mode) size) (no_work k)
