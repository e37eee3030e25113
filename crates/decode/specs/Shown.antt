-- What the program prints: the line of a refusal, or one line for each sample row (01, "The numbers each operation gives", Program).
use Rattle.std.specs.Prelude.{ℕ, zero, suc, ◌*◌, List, [], ◌++◌, ℤ, take, drop}
use Rattle.decimal.specs.Text.{row, refused_line}
use Rattle.picture.specs.Numbers.{settled}
use Rattle.plane_file.specs.Header.{size_in}
use Rattle.decode.specs.Program.{program_number, samples_of}

-- h rows of w numbers, one behind the other
unfoldable pub rows : ℕ → ℕ → List ℤ → List ℕ
rows zero w xs = []
rows (suc h) w xs = row (take w xs) ++ rows h w (drop w xs)

-- a picture of W by H macroblocks has 16 H rows of 16 W samples
unfoldable pub shown : List ℕ → List ℕ
shown bytes =
    settled (program_number bytes) (rows (16 * (size_in bytes).height.0) (16 * (size_in bytes).width.0) (samples_of bytes)) (refused_line (program_number bytes))
