-- How far two pictures are apart at a place (02, c).
use Rattle.std.specs.Prelude.{ℕ, Bool, List, leb, ℤ, nat_abs, ◌-ℤ◌}
use Rattle.lifting.specs.Program.{at}

-- the difference at a place, over whole numbers, is at most the tolerance
abbrev pub near : ℕ → List ℤ → List ℤ → ℕ → Bool
near tolerance a b i = leb (nat_abs (at a i -ℤ at b i)) tolerance
