-- What the program answers to the bytes that it reads, and what it leaves in its memory (01, "The numbers each operation gives", Program).
use Rattle.std.specs.Prelude.{ℕ, List, [], ◌∷◌, ◌++◌, ltb, ℤ, length, drop}
use Rattle.picture.specs.Refusals.{too_many_macroblocks}
use Rattle.picture.specs.Numbers.{◌if◌, first_of, settled}
use Rattle.picture.specs.Planes.{Planes}
use Rattle.transform.specs.Transform.{inverse}
use Rattle.plane_file.specs.Header.{mode_in, size_in}
use Rattle.plane_file.specs.Layout.{planes_in}
use Rattle.plane_file.specs.Numbers.{start_checks, total_check, count_in}

-- n above 16
abbrev pub count_check : ℕ → List ℕ
count_check n = (too_many_macroblocks if ltb 16 n) ∷ []

-- Program: 9, 1, 2, 3, 10, 11, then 13, then 12
unfoldable pub program_number : List ℕ → ℕ
program_number bytes =
    first_of (start_checks bytes ++ count_check (count_in bytes) ++ total_check (count_in bytes) (length bytes))

-- the planes of the file, and the samples that they stand for
abbrev pub planes_of : List ℕ → Planes
planes_of bytes = planes_in bytes (count_in bytes)

abbrev pub samples_of : List ℕ → List ℤ
samples_of bytes = inverse (mode_in bytes) (size_in bytes) (planes_of bytes)

-- memory that held `was`: done, the n numbers xs are at its front; refused, it is unchanged
abbrev pub left : List ℕ → ℕ → List ℤ → List ℤ → List ℤ
left bytes n xs was = settled (program_number bytes) (xs ++ drop n was) was
