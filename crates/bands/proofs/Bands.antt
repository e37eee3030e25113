-- The three bands together: planes are equal plane by plane.
use mathlib.Core.Path.{◌≡◌}
use mathlib.Core.List.{List}
use lib.IntN.{ℤ}
use Rattle.picture.specs.Planes.{planes}

pub by_plane : {a b c x y z : List ℤ} → a ≡ x → b ≡ y → c ≡ z → planes a b c ≡ planes x y z
by_plane e f g = rw (e, f, g)
