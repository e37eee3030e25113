-- The largest difference that there is, computed.
use mathlib.Core.Path.{◌≡◌, refl}
use mathlib.Core.Bool.{true, false}
use mathlib.Core.List.{[], ◌∷◌}
use lib.IntN.{pos, negsuc}
use Rattle.differences.specs.Near.{near}

-- the ends of the range are 4294967295 apart
pub ends : (near 4294967295 (pos 2147483647 ∷ []) (negsuc 2147483647 ∷ []) 0 ≡ true) × (near 4294967294 (negsuc 2147483647 ∷ []) (pos 2147483647 ∷ []) 0 ≡ false)
ends = (refl, refl)
