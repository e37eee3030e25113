-- How far a number reaches, in the last samples of its window and in the first beyond: 10 in mode 2, 2 in mode 1, to the right, up and down (01, "Windows of influence"). The values are those of rust/reference.
use Rattle.std.specs.Prelude.{ℕ, ◌+◌, ◌*◌, ◌≡◌, List, [], ◌∷◌, set, ℤ, pos}
use Rattle.lifting.specs.Program.{at}
use Rattle.picture.specs.Planes.{planes}
use Rattle.picture.specs.Table.{table}
use Rattle.transform.specs.Transform.{inverse}
use Rattle.corollaries.specs.Sizes.{of}
use Rattle.known_answers.specs.Pictures.{minus, zeros}

-- two macroblocks with these DC numbers and the rest 0, side by side and one above the other
abbrev pub side_by_side : ℕ → ℕ → ℕ → List ℤ
side_by_side mode left right = inverse mode (of 2 1) (planes (pos left ∷ pos right ∷ []) (zeros 30) (zeros 480))

abbrev pub above : ℕ → ℕ → ℕ → List ℤ
above mode upper lower = inverse mode (of 1 2) (planes (pos upper ∷ pos lower ∷ []) (zeros 30) (zeros 480))

-- n samples from column c of row 8 on, and from row r of column 8 on, in pictures of 32 and of 16 columns
abbrev pub along_row : List ℤ → ℕ → ℕ → List ℤ
along_row samples c n = table n (λ i. at samples (8 * 32 + (c + i)))

abbrev pub along_column : List ℤ → ℕ → ℕ → List ℤ
along_column samples r n = table n (λ i. at samples (16 * (r + i) + 8))

-- the left macroblock ends with column 15, the upper with row 15; the lower begins with row 16
abbrev pub MacroblockReach : Type 0
MacroblockReach =
    (along_row (side_by_side 1 4096 0) 16 4 ≡ pos 122 ∷ pos 26 ∷ pos 0 ∷ pos 0 ∷ [])
    × (along_row (side_by_side 2 4096 0) 24 4 ≡ pos 9 ∷ pos 1 ∷ pos 0 ∷ pos 0 ∷ [])
    × (along_column (above 2 4096 0) 24 4 ≡ pos 9 ∷ pos 1 ∷ pos 0 ∷ pos 0 ∷ [])
    × (along_column (above 2 0 4096) 4 4 ≡ pos 0 ∷ pos 0 ∷ pos 2 ∷ pos 10 ∷ [])

-- the first high-pass number of block 5, whose own rows and columns are 4 to 7: row 5 and column 5 of the picture, in mode 1
abbrev pub fifth : List ℤ
fifth = inverse 1 (of 1 1) (planes (zeros 1) (zeros 15) (set (zeros 240) 75 (pos 4096)))

abbrev pub BlockReach : Type 0
BlockReach =
    (table 12 (λ x. at fifth (5 * 16 + x)) ≡
    pos 0 ∷ pos 0 ∷ minus 110 ∷ pos 432 ∷ pos 1465 ∷ pos 969 ∷ minus 972 ∷ minus 1466 ∷ minus 442 ∷ pos 103 ∷ pos 0 ∷ pos 0 ∷ [])
    × (table 12 (λ y. at fifth (16 * y + 5)) ≡
    pos 0 ∷ pos 0 ∷ pos 82 ∷ pos 336 ∷ pos 718 ∷ pos 969 ∷ pos 972 ∷ pos 718 ∷ pos 340 ∷ pos 89 ∷ pos 0 ∷ pos 0 ∷ [])
