-- The whole transform: inverse, forward and quarter view (01, "Both levels").
use Rattle.std.specs.Prelude.{ℕ, ◌*◌, List, ℤ}
use Rattle.lifting.specs.Program.{Program, run, undo}
use Rattle.picture.specs.declared.size.Size.{Size}
use Rattle.picture.specs.declared.mode.Mode.{Mode}
use Rattle.picture.specs.Modes.{mode_of}
use Rattle.transform.specs.Level.{level}
use Rattle.picture.specs.Planes.{Planes, planes}
use Rattle.transform.specs.Grids.{first_grid, second_grid, dc_of, low_of, view_of, high_of}

-- the two levels of a picture: a square is a macroblock in the first, and a block in the second
abbrev pub level_one : Mode → Size → Program
level_one mode size = level mode.first size.width.0 size.height.0

abbrev pub level_two : Mode → Size → Program
level_two mode size = level mode.second (4 * size.width.0) (4 * size.height.0)

-- the grid after level one
unfoldable pub quarter_by : Mode → Size → List ℤ → List ℤ → List ℤ
quarter_by mode size dc low = run (level_one mode size) (first_grid size.width.0 size.height.0 dc low)

-- from planes to samples: level one and then level two
unfoldable pub inverse_by : Mode → Size → Planes → List ℤ
inverse_by mode size s =
    run (level_two mode size) (second_grid size.width.0 size.height.0 (quarter_by mode size s.dc s.low) s.high)

-- from samples to planes: level two undone and then level one
unfoldable pub second_undone : Mode → Size → List ℤ → List ℤ
second_undone mode size samples = undo (level_two mode size) samples

unfoldable pub first_undone : Mode → Size → List ℤ → List ℤ
first_undone mode size samples = undo (level_one mode size) (view_of size.width.0 size.height.0 (second_undone mode size samples))

unfoldable pub forward_by : Mode → Size → List ℤ → Planes
forward_by mode size samples =
    let W = size.width.0 in
    let H = size.height.0 in
    planes (dc_of W H (first_undone mode size samples)) (low_of W H (first_undone mode size samples)) (high_of W H (second_undone mode size samples))

-- the same by the number of the mode
abbrev pub quarter : ℕ → Size → List ℤ → List ℤ → List ℤ
quarter mode size dc low = quarter_by (mode_of mode) size dc low

abbrev pub inverse : ℕ → Size → Planes → List ℤ
inverse mode size s = inverse_by (mode_of mode) size s

abbrev pub forward : ℕ → Size → List ℤ → Planes
forward mode size samples = forward_by (mode_of mode) size samples
