-- One table undoes another: a test that computes, entry by entry, and what it says of an entry.
use Prim.Native.Nat.{ℕ, ◌<◌}
use mathlib.Core.Path.{◌≡◌}
use mathlib.Core.Bool.{Bool, ◌&&◌}
use mathlib.Core.List.{List}
use lib.Dec.{T, ltb, eqb, ltb→lt, eqb→eq}
use lib.ListN.{get_or}
use mir.Facts.{and_yes}
use Rattle.lifting.specs.Tests.{all}
use Rattle.lifting.proofs.Tests.{all-at}

abbrev back_at : List ℕ → List ℕ → ℕ → Bool
back_at ps qs k = ltb (get_or ps k 0) 16 && eqb (get_or qs (get_or ps k 0) 0) k

pub record Back (ps qs : List ℕ) (k : ℕ) : Type 0 where
  pub inside : get_or ps k 0 < 16
  pub same : get_or qs (get_or ps k 0) 0 ≡ k

-- entry k of ps is a place, and qs sends it back
pub back : (ps qs : List ℕ) → T (all 16 (back_at ps qs)) → (k : ℕ) → k < 16 → Back ps qs k
back ps qs t k h =
    let (a, b) = and_yes (ltb (get_or ps k 0) 16) _ (all-at 16 (back_at ps qs) t k h) in
    record { inside = ltb→lt _ _ a; same = eqb→eq _ _ b }
