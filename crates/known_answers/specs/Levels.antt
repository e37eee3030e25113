-- Steps and levels: the first 32 steps and the last, and three bands with three indices, worked out from the rule of 02, a.
use Rattle.std.specs.Prelude.{◌≡◌, [], ◌∷◌, map, pos}
use Rattle.picture.specs.Planes.{planes}
use Rattle.step_sizes.specs.Steps.{step_of}
use Rattle.quantise.specs.Quantise.{quantised_planes}
use Rattle.restore.specs.Restore.{restored_planes}
use Rattle.known_answers.specs.Pictures.{minus}

-- index 0 gives 1, and 1 to 31 give the index; 33 gives 34 and 255 gives 31 × 2^14
abbrev pub FirstSteps : Type 0
FirstSteps =
    map step_of (0 ∷ 1 ∷ 2 ∷ 3 ∷ 4 ∷ 5 ∷ 6 ∷ 7 ∷ 8 ∷ 9 ∷ 10 ∷ 11 ∷ 12 ∷ 13 ∷ 14 ∷ 15 ∷ 16 ∷ 17 ∷ 18 ∷ 19 ∷ 20 ∷ 21 ∷ 22 ∷ 23 ∷ 24 ∷ 25 ∷ 26 ∷ 27 ∷ 28 ∷ 29 ∷ 30 ∷ 31 ∷ 33 ∷ 255 ∷ []) ≡
    1 ∷ 1 ∷ 2 ∷ 3 ∷ 4 ∷ 5 ∷ 6 ∷ 7 ∷ 8 ∷ 9 ∷ 10 ∷ 11 ∷ 12 ∷ 13 ∷ 14 ∷ 15 ∷ 16 ∷ 17 ∷ 18 ∷ 19 ∷ 20 ∷ 21 ∷ 22 ∷ 23 ∷ 24 ∷ 25 ∷ 26 ∷ 27 ∷ 28 ∷ 29 ∷ 30 ∷ 31 ∷ 34 ∷ 507904 ∷ []

-- indices 10, 20 and 40 give steps 10, 20 and 48
abbrev pub ThreeBands : Type 0
ThreeBands =
    (quantised_planes (record { dc = 10; low = 20; high = 40 }) (planes (pos 104 ∷ []) (pos 104 ∷ minus 110 ∷ []) (pos 104 ∷ minus 24 ∷ pos 23 ∷ [])) ≡
    planes (pos 10 ∷ []) (pos 5 ∷ minus 6 ∷ []) (pos 2 ∷ minus 1 ∷ pos 0 ∷ []))
    × (restored_planes (record { dc = 10; low = 20; high = 40 }) (planes (pos 10 ∷ []) (pos 5 ∷ minus 6 ∷ []) (pos 2 ∷ minus 1 ∷ pos 0 ∷ [])) ≡
    planes (pos 100 ∷ []) (pos 100 ∷ minus 120 ∷ []) (pos 96 ∷ minus 48 ∷ pos 0 ∷ []))
