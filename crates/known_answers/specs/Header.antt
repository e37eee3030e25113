-- The header of a file of 2 x 3 macroblocks in mode 1, byte by byte (01, "The plane file"): the low-pass plane starts at 32 + 24, the high-pass plane at 32 + 384, and the file has 32 + 6144 bytes.
use Rattle.std.specs.Prelude.{◌≡◌, [], ◌∷◌}
use Rattle.plane_file.specs.Layout.{header}
use Rattle.corollaries.specs.Sizes.{of}

abbrev pub HeaderBytes : Type 0
HeaderBytes =
    header 1 (of 2 3) ≡
    1 ∷ 0 ∷ 0 ∷ 0 ∷
    2 ∷ 0 ∷ 0 ∷ 0 ∷
    3 ∷ 0 ∷ 0 ∷ 0 ∷
    32 ∷ 0 ∷ 0 ∷ 0 ∷
    56 ∷ 0 ∷ 0 ∷ 0 ∷
    160 ∷ 1 ∷ 0 ∷ 0 ∷
    32 ∷ 24 ∷ 0 ∷ 0 ∷
    0 ∷ 0 ∷ 0 ∷ 0 ∷ []
