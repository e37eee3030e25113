-- Looks at one more number: a difference beyond the tolerance ends it for all that follow.
use Prim.Native.Nat.{ℕ, ◌+◌, ◌≤◌}
use mathlib.Core.Path.{◌≡◌, refl, ◌∙◌}
use mathlib.Core.Bool.{Bool, true, false, not, ◌&&◌, ◌||◌}
use native.Mathlib.Omega.{arith}
use native.Mathlib.Decide.{dec_le}
use native.Mathlib.Numerals.{add-one}
use borrow.Author.Tests.{lt-ltb, le-ltb, le-leb, lt-leb}
use lib.Dec.{ltb, leb}
use Rattle.lifting.specs.Tests.{all}

pub not_yes : true ≡ false → ⊥
not_yes e = let z : ◌≡◌ {A = ℕ} 0 1 = cc in omega arith

-- ---- one more is looked at

within : (d t : ℕ) → leb d t ≡ not (ltb t d)
within d t = case (dec_le d t)
  where
    case : Dec (d ≤ t) → leb d t ≡ not (ltb t d)
    case (yes h) = rw (le-leb d t h, le-ltb t d h)
    case (no h) = rw (lt-leb d t (omega (arith, h)), lt-ltb t d (omega (arith, h)))

-- all so far, or not, and one more
more : (before near beyond : Bool) → near ≡ not beyond → not before || beyond ≡ not (before && near)
more false near beyond e = refl
more true near true e = rw e
more true near false e = rw e

pub one_more : (f : ℕ → Bool) (i t d : ℕ) {far : Bool} → f i ≡ leb d t → far ≡ not (all i f) → far || ltb t d ≡ not (all (i + 1) f)
one_more f i t d e h = rw (add-one i, h) (more (all i f) (f i) (ltb t d) (e ∙ within d t))
