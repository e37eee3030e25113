-- The tests of Figure 4.4, of which it makes two twice, in the order of its lines and in the order of its lines undone.
use mathlib.Core.Path.{◌≡◌, refl}
use mathlib.Core.Bool.{Bool, true, false, ◌||◌}
use Rattle.lifting.proofs.Tests.{or_swap}

pub in_order : (p q e t c d x y : Bool)
    → p || q || e || t || c || d || x || y ≡ p || q || e || t || c || e || t || d || x || y
in_order true q e t c d x y = refl
in_order false true e t c d x y = refl
in_order false false true t c d x y = refl
in_order false false false true c d x y = refl
in_order false false false false true d x y = refl
in_order false false false false false d x y = refl

pub from_the_last : (p q e t c d x y : Bool)
    → p || q || e || t || c || d || x || y ≡ q || p || e || t || c || e || t || d || y || x
from_the_last true true e t c d x y = refl
from_the_last true false e t c d x y = refl
from_the_last false true e t c d x y = refl
from_the_last false false true t c d x y = refl
from_the_last false false false true c d x y = refl
from_the_last false false false false true d x y = refl
from_the_last false false false false false d x y = or_swap d x y
