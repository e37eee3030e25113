-- Blocks and fours as lists. A block of four rows of four numbers is read as a row of sixteen: coefficient k is row k div 4, column k mod 4 (01, "Where the steps come from").
use Rattle.std.specs.Prelude.{List, [], ◌∷◌, ◌++◌, get_or, ℤ}
use Rattle.lifting.specs.Program.{at}
use Rattle.figures.specs.declared.Four.{Four}

abbrev pub four : List ℤ → List ℤ
four v = at v 0 ∷ at v 1 ∷ at v 2 ∷ at v 3 ∷ []

unfoldable pub flat : List (List ℤ) → List ℤ
flat b = four (get_or b 0 []) ++ four (get_or b 1 []) ++ four (get_or b 2 []) ++ four (get_or b 3 [])

-- the four numbers of a `Four`
abbrev pub list : Four → List ℤ
list f = f.a ∷ f.b ∷ f.c ∷ f.d ∷ []
