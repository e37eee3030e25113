-- Values of Figures 4.5 to 4.14 beside the starred ones, as one table. Their source is the independent reading of the
-- document in rust/reference, which gives what jxrlib's kernels give. Where a constant of these figures is changed by one,
-- or two places of a use are exchanged and the figure is another for it, a value of one of the two tables is another.
use Rattle.std.specs.Prelude.{List, [], ◌∷◌, ◌++◌, pos}
use Rattle.figures.specs.Figures.{odd, odd_odd, core, rotation, scale, post_hadamard, post_odd_odd, four_filter, square_filter}
use Rattle.figures.specs.Bench.{Value, ◌on◌gives◌, minus, two, four, first, Hold}

abbrev pub reference : List Value
reference =
    (odd on four (pos 12) (minus 11) (minus 7) (minus 4) gives four (pos 16) (minus 2) (pos 4) (pos 9))
    ∷ (odd on four (minus 7) (minus 7) (minus 7) (minus 5) gives four (pos 0) (minus 12) (minus 2) (pos 4))
    ∷ (odd_odd on four (minus 5) (pos 2) (pos 6) (minus 4) gives four (minus 8) (minus 2) (minus 6) (minus 1))
    ∷ (odd_odd on four (pos 3) (minus 1) (minus 1) (pos 0) gives four (pos 3) (minus 1) (minus 1) (pos 0))
    ∷ (core on four (minus 13) (pos 12) (pos 17) (pos 1) ++ four (minus 20) (minus 4) (minus 11) (minus 4) ++ four (minus 17) (minus 12) (pos 18) (pos 10) ++ four (pos 13) (minus 5) (minus 16) (minus 11)
    gives four (minus 13) (minus 17) (minus 15) (minus 8) ++ four (pos 8) (minus 7) (minus 13) (minus 11) ++ four (pos 7) (pos 22) (pos 3) (minus 1) ++ four (pos 18) (minus 22) (minus 11) (pos 7))
    ∷ (rotation on two (pos 1) (minus 2) gives two (pos 2) (minus 1))
    ∷ (scale on two (pos 1) (pos 6) gives two (pos 5) (minus 3))
    ∷ (post_hadamard on four (pos 3) (minus 2) (pos 1) (pos 4) gives four (pos 2) (pos 3) (pos 6) (pos 3))
    ∷ (post_hadamard on four (pos 3) (pos 1) (pos 0) (pos 1) gives four (pos 2) (pos 2) (pos 1) (pos 1))
    ∷ (post_odd_odd on four (pos 8) (pos 0) (pos 0) (pos 0) gives four (pos 7) (pos 3) (pos 3) (pos 1))
    ∷ (post_odd_odd on four (pos 0) (pos 8) (pos 0) (pos 0) gives four (minus 3) (pos 7) (minus 1) (pos 3))
    ∷ (post_odd_odd on four (minus 1) (pos 3) (minus 5) (pos 7) gives four (pos 0) (pos 0) (minus 8) (pos 6))
    ∷ (post_odd_odd on four (minus 12) (pos 11) (pos 11) (pos 6) gives four (minus 16) (pos 1) (pos 1) (pos 10))
    ∷ (post_odd_odd on four (pos 2) (minus 2) (minus 1) (pos 1) gives four (pos 2) (minus 1) (pos 0) (pos 1))
    ∷ (four_filter on four (pos 64) (pos 0) (pos 0) (pos 0) gives four (pos 59) (minus 13) (pos 13) (pos 19))
    ∷ (four_filter on four (pos 0) (pos 0) (pos 0) (pos 64) gives four (pos 18) (pos 14) (minus 13) (pos 58))
    ∷ (four_filter on four (pos 100) (minus 50) (pos 25) (pos 7) gives four (pos 78) (minus 65) (pos 35) (pos 51))
    ∷ (four_filter on four (pos 10) (pos 0) (pos 3) (pos 1) gives four (pos 8) (minus 2) (pos 5) (pos 5))
    ∷ (four_filter on four (minus 10) (pos 6) (minus 9) (pos 24) gives four (pos 2) (pos 12) (minus 16) (pos 16))
    ∷ (four_filter on four (pos 3) (minus 6) (minus 6) (minus 5) gives four (pos 2) (minus 8) (minus 5) (minus 4))
    ∷ (four_filter on four (pos 2147483647) (pos 0) (pos 0) (pos 1) gives four (minus 1937686529) (pos 444760065) (minus 445644801) (minus 357040127))
    ∷ (square_filter on first (pos 64)
    gives four (pos 57) (minus 12) (pos 12) (pos 13) ++ four (minus 12) (pos 1) (minus 2) (minus 4) ++ four (pos 12) (minus 2) (pos 1) (pos 4) ++ four (pos 13) (minus 4) (pos 4) (pos 8))
    ∷ (square_filter on four (minus 40) (minus 39) (minus 36) (minus 31) ++ four (minus 24) (minus 15) (minus 4) (pos 9) ++ four (pos 24) (pos 41) (pos 60) (pos 81) ++ four (pos 104) (pos 129) (pos 156) (pos 185)
    gives four (minus 10) (minus 4) (minus 10) (pos 2) ++ four (pos 26) (pos 48) (pos 41) (pos 69) ++ four (minus 2) (pos 18) (pos 11) (pos 36) ++ four (pos 126) (pos 162) (pos 154) (pos 195))
    ∷ (square_filter on four (minus 12) (pos 11) (minus 7) (minus 4) ++ four (pos 7) (pos 20) (minus 1) (pos 6) ++ four (pos 12) (pos 4) (pos 16) (pos 2) ++ four (pos 14) (pos 17) (pos 6) (pos 17)
    gives four (minus 2) (pos 18) (minus 7) (minus 5) ++ four (pos 19) (pos 21) (pos 11) (pos 11) ++ four (pos 6) (pos 8) (pos 16) (pos 2) ++ four (pos 16) (pos 18) (pos 9) (pos 13))
    ∷ []

abbrev pub ReferenceHold : Type 0
ReferenceHold = Hold 24 reference
