-- The figures are those that the claims ask for and give.
use Prim.Native.Nat.{ℕ, ◌≤◌, ◌<◌}
use mathlib.Core.Path.{sym, subst}
use mathlib.Core.List.{List}
use native.Mathlib.Omega.{arith}
use native.Mathlib.Decide.{dec_lt}
use lib.Dec.{lit<}
use lib.IntN.{ℤ, pos, negsuc}
use lib.ListN.{get_or-eq_default}
use mir.Val.{SFits}
use mir.Syntax.{w32}
use Rattle.lifting.specs.Program.{at}
use Rattle.lifting.specs.Row.{Row}
use Rattle.picture.specs.Sizes.{Shape}
use Rattle.corollaries.specs.Sizes.{of, InRange, Numbers}

pub shape : {mode W H : ℕ} → mode ≤ 2 → 1 ≤ W → W ≤ 525 → 1 ≤ H → H ≤ 413 → Shape mode (of W H)
shape m a b c d = record { known = m; sized = record { wide = a; most-wide = b; tall = c; most-tall = d } }

pub fits : (x : ℤ) → InRange x → SFits w32 x
fits (pos n) h = record { sfits = omega arith }
fits (negsuc n) h = record { sfits = omega arith }

pub in_range : (x : ℤ) → SFits w32 x → InRange x
in_range (pos n) f = omega (arith, f.sfits)
in_range (negsuc n) f = omega (arith, f.sfits)

-- a place past the end reads as 0
pub row : {n : ℕ} {v : List ℤ} → Numbers n v → Row n v
row {n} {v} h = record { len = h.count; fit = λ i. at_place i (dec_lt i n) }
  where
    at_place : (i : ℕ) → Dec (i < n) → SFits w32 (at v i)
    at_place i (yes l) = fits (at v i) (h.in_range i l)
    at_place i (no l) = subst (SFits w32) (sym (get_or-eq_default v (pos 0) {n = i} (omega (arith, h.count, l)))) (record { sfits = lit< tt })

pub numbers : {n : ℕ} {v : List ℤ} → Row n v → Numbers n v
numbers {v = v} r = record { count = r.len; in_range = λ i l. in_range (at v i) (r.fit i) }
