-- The uses of a program, each judged alone.
use Rattle.std.specs.Prelude.{Bool, false, ◌||◌, List, ℤ}
use Rattle.lifting.specs.Program.{Program, end, ◌⨾◌, reorder, apply, get}

-- some use is judged so on the numbers that stand at its places in v: what other uses do is not looked at
unfoldable pub any_use : (Program → List ℤ → Bool) → Program → List ℤ → Bool
any_use judge end v = false
any_use judge (l ⨾ p) v = any_use judge p v
any_use judge (reorder to back p) v = any_use judge p v
any_use judge (apply o s ps p) v = judge s (get ps v) || any_use judge p v
