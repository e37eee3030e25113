-- What is told of pictures in which level one alone wraps, level two alone, and neither (02, e). What each tells is worked out from the figures: a sum of the core transform with 2147483647.
use Rattle.std.specs.Prelude.{ℕ, ◌≡◌, Bool, true, false, List, [], ◌∷◌, set, pos}
use Rattle.lifting.specs.Wraps.{wraps}
use Rattle.picture.specs.Modes.{mode_of}
use Rattle.picture.specs.Planes.{Planes, planes}
use Rattle.transform.specs.Grids.{second_grid}
use Rattle.transform.specs.Transform.{level_two, quarter}
use Rattle.transform.specs.Wraps.{inverse_wraps, quarter_wraps}
use Rattle.corollaries.specs.Sizes.{of}
use Rattle.known_answers.specs.Pictures.{zeros}

-- one macroblock with this DC number and this first high-pass number of block 5
abbrev pub lone : ℕ → ℕ → Planes
lone dc high = planes (pos dc ∷ []) (zeros 15) (set (zeros 240) 75 (pos high))

-- the quarter view tells of level one, and the inverse of both
abbrev pub told : Planes → List Bool
told s =
    quarter_wraps 0 (of 1 1) s.dc s.low
    ∷ wraps (level_two (mode_of 0) (of 1 1)) (second_grid 1 1 (quarter 0 (of 1 1) s.dc s.low) s.high)
    ∷ inverse_wraps 0 (of 1 1) s
    ∷ []

abbrev pub TellsOfEachLevel : Type 0
TellsOfEachLevel =
    (told (lone 2147483647 0) ≡ true ∷ false ∷ true ∷ [])
    × (told (lone 0 2147483647) ≡ false ∷ true ∷ true ∷ [])
    × (told (lone 4096 4096) ≡ false ∷ false ∷ false ∷ [])
