-- The layout of a plane file: eight words, and the three planes after them (01, "The plane file").
use Rattle.std.specs.Prelude.{ℕ, ◌+◌, ◌*◌, List, [], ◌∷◌, ◌++◌}
use Rattle.picture.specs.declared.size.Size.{Size}
use Rattle.picture.specs.Sizes.{macroblocks}
use Rattle.picture.specs.Planes.{Planes, planes}
use Rattle.plane_file.specs.Words.{words, numbers, numbers_at}

-- the header's words
abbrev pub header_length : ℕ
header_length = 8

-- the header's length in bytes; where each plane of a picture of n macroblocks starts; and the file's length
abbrev pub header_bytes : ℕ
header_bytes = 4 * header_length

abbrev pub dc_offset : ℕ
dc_offset = header_bytes

abbrev pub low_offset : ℕ → ℕ
low_offset n = header_bytes + 4 * n

abbrev pub high_offset : ℕ → ℕ
high_offset n = header_bytes + 64 * n

abbrev pub total : ℕ → ℕ
total n = header_bytes + 1024 * n

abbrev pub header_words : ℕ → Size → List ℕ
header_words mode size =
    let n = macroblocks size in
    mode ∷ size.width.0 ∷ size.height.0 ∷ dc_offset ∷ low_offset n ∷ high_offset n ∷ total n ∷ 0 ∷ []

unfoldable pub header : ℕ → Size → List ℕ
header mode size = words (header_words mode size)

-- the whole file
unfoldable pub file : ℕ → Size → Planes → List ℕ
file mode size s = header mode size ++ numbers s.dc ++ numbers s.low ++ numbers s.high

-- the planes that stand in a file of n macroblocks
abbrev pub planes_in : List ℕ → ℕ → Planes
planes_in bytes n =
    planes (numbers_at bytes dc_offset n) (numbers_at bytes (low_offset n) (15 * n)) (numbers_at bytes (high_offset n) (240 * n))
