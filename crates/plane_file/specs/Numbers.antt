-- The numbers of header, load and save: their checks, in order (01, "The numbers each operation gives").
use Rattle.std.specs.Prelude.{ℕ, Bool, ◌||◌, List, [], ◌∷◌, ◌++◌, ltb, length}
use Rattle.picture.specs.declared.size.Size.{Size}
use Rattle.picture.specs.Sizes.{macroblocks}
use Rattle.picture.specs.Refusals.{file_too_short, last_word, offsets, file_length}
use Rattle.picture.specs.Numbers.{◌if◌, first_of, unlike, shape_checks, plane_checks}
use Rattle.picture.specs.Planes.{Planes}
use Rattle.plane_file.specs.declared.header.Words.{Words}
use Rattle.plane_file.specs.Layout.{header_bytes, dc_offset, low_offset, high_offset, total}
use Rattle.plane_file.specs.Header.{size_of, size_in, words_of}

-- an offset or the total isn't as laid down for n macroblocks
abbrev pub misplaced : ℕ → Words → Bool
misplaced n w = unlike w.dc dc_offset || unlike w.low (low_offset n) || unlike w.high (high_offset n) || unlike w.total (total n)

abbrev pub last_check : Words → List ℕ
last_check w = (last_word if unlike w.last 0) ∷ []

abbrev pub offsets_check : Words → List ℕ
offsets_check w = (offsets if misplaced (macroblocks (size_of w.width w.height)) w) ∷ []

abbrev pub layout_checks : Words → List ℕ
layout_checks w = last_check w ++ offsets_check w

-- of the words alone: 1, 2, 3, 10, 11
abbrev pub word_checks : Words → List ℕ
word_checks w = shape_checks w.mode (size_of w.width w.height) ++ layout_checks w

-- fewer bytes than a header has
abbrev pub short_check : List ℕ → List ℕ
short_check bytes = (file_too_short if ltb (length bytes) header_bytes) ∷ []

-- 9, and then the words
abbrev pub start_checks : List ℕ → List ℕ
start_checks bytes = short_check bytes ++ word_checks (words_of bytes)

-- not as many bytes as a file of n macroblocks has
abbrev pub total_check : ℕ → ℕ → List ℕ
total_check n bytes = (file_length if unlike bytes (total n)) ∷ []

-- W times H, as the header says them
abbrev pub count_in : List ℕ → ℕ
count_in bytes = macroblocks (size_in bytes)

abbrev pub header_checks : List ℕ → List ℕ
header_checks bytes = start_checks bytes ++ total_check (count_in bytes) (length bytes)

-- Header: 9, 1, 2, 3, 10, 11, 12
unfoldable pub header_number : List ℕ → ℕ
header_number bytes = first_of (header_checks bytes)

-- Load: as header, then 4, 5, 6
unfoldable pub load_number : List ℕ → Planes → ℕ
load_number bytes s = first_of (header_checks bytes ++ plane_checks (count_in bytes) s)

-- Save: 1 to 6, then 12
unfoldable pub save_number : ℕ → Size → Planes → List ℕ → ℕ
save_number mode size s bytes =
    first_of (shape_checks mode size ++ plane_checks (macroblocks size) s ++ total_check (macroblocks size) (length bytes))
