-- Tries that one number decides: a high-pass number, and the last sample (02, c). The second picture and its differences are those of rust/reference.
use Rattle.std.specs.Prelude.{◌+◌, ◌*◌, ◌/◌, ◌%◌, ◌≡◌, true, false, cond, ◌&&◌, List, leb, ℤ, pos}
use Rattle.picture.specs.Table.{table}
use Rattle.transform.specs.Transform.{inverse}
use Rattle.tries.specs.Tries.{passes}
use Rattle.corollaries.specs.Sizes.{of}
use Rattle.known_answers.specs.Tells.{lone}

-- step 2 keeps an even number; 2147483647 has the level 1073741824, whose product is 2147483648
abbrev pub HighPassDecides : Type 0
HighPassDecides =
    (passes 0 (of 1 1) (inverse 0 (of 1 1) (lone 0 2147483646)) 0 2 ≡ true)
    × (passes 0 (of 1 1) (inverse 0 (of 1 1) (lone 0 2147483647)) 4294967295 2 ≡ false)

-- row y, column x of the last block has (7 y + 3 x + 1) mod 41, and the other blocks 0: with step 2 the last sample is off by 4, and every other by at most 2
abbrev pub corner : List ℤ
corner = table 256 (λ i. cond (leb 12 (i / 16) && leb 12 (i % 16)) (pos ((7 * (i / 16) + 3 * (i % 16) + 1) % 41)) (pos 0))

abbrev pub LastSampleDecides : Type 0
LastSampleDecides = (passes 0 (of 1 1) corner 4 2 ≡ true) × (passes 0 (of 1 1) corner 3 2 ≡ false)
