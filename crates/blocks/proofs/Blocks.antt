-- Blocks: a number of a block is the number at its place in the row of sixteen. And what is told of the four fours of a block, use by use.
use Prim.Native.Nat.{ℕ, zero, suc, ◌/◌, ◌%◌, ◌<◌}
use mathlib.Core.Path.{◌≡◌, refl, ◌∙◌, ap}
use mathlib.Core.Bool.{Bool, false, ◌||◌, ◌&&◌, and-or_distrib_left}
use mathlib.Core.List.{List, []}
use native.Mathlib.Omega.{arith}
use lib.ListN.{get_or}
use lib.IntN.{ℤ, pos}
use Rattle.lifting.specs.Program.{at}
use Rattle.lifting.proofs.Tests.{or_swap}
use Rattle.figures.specs.Block.{flat, list}
use Rattle.figures.specs.declared.Four.{Four}
use Rattle.blocks.specs.declared.Quads.{Quads}
use Rattle.blocks.specs.Quads.{on_some}
use Rattle.figures.proofs.Parts.{kept_four}

-- ---- the numbers of a block

-- P holds of each number below n
abbrev Below : ℕ → (ℕ → Type 0) → Type 0
Below zero P = Unit
Below (suc n) P = P 0 × Below n (λ k. P (suc k))

below : (n : ℕ) (P : ℕ → Type 0) → Below n P → (k : ℕ) → k < n → P k
below zero P p k h = absurd (omega arith)
below (suc n) P p zero h = p.0
below (suc n) P p (suc k) h = below n (λ i. P (suc i)) p.1 k (omega arith)

-- coefficient k is row k div 4, column k mod 4
pub at-flat : (b : List (List ℤ)) (k : ℕ) → k < 16 → get_or (get_or b (k / 4) []) (k % 4) (pos 0) ≡ at (flat b) k
unfolding flat
at-flat b k h =
    below 16 (λ i. get_or (get_or b (i / 4) []) (i % 4) (pos 0) ≡ at (flat b) i)
    (refl, (refl, (refl, (refl, (refl, (refl, (refl, (refl, (refl, (refl, (refl, (refl, (refl, (refl, (refl, (refl, tt)))))))))))))))) k h

-- ---- fours, as locals hold them

abbrev pub four_of : List ℤ → Four
four_of w = record { a = at w 0; b = at w 1; c = at w 2; d = at w 3 }

-- a four that is known as a list
pub four_is : {f : Four} {w : List ℤ} → list f ≡ w → f ≡ four_of w
four_is e = ap four_of e

abbrev pub kept_quads : Quads → Quads
kept_quads f = record { p = kept_four f.p; q = kept_four f.q; r = kept_four f.r; s = kept_four f.s }

pub quads : (f : Quads) → kept_four f.p ≡ f.p → kept_four f.q ≡ f.q → kept_four f.r ≡ f.r → kept_four f.s ≡ f.s → kept_quads f ≡ f
quads f p q r s = rw (p, q, r, s)

-- ---- what is told of four uses

pub ask_four : (t a b c d : Bool) {p q r s : Bool} → p ≡ t && a → q ≡ t && b → r ≡ t && c → s ≡ t && d → p || q || r || s ≡ t && (a || b || c || d)
ask_four t a b c d e f g h = rw (e, f, g, h, and-or_distrib_left t (a || b || c) d, and-or_distrib_left t (a || b) c, and-or_distrib_left t a b)

last_first : (p q r s : Bool) → p || q || r || s ≡ s || r || q || p
last_first p q r s =
    or_swap (p || q) r s ∙ ap (λ x. x || r) (or_swap p q s ∙ ap (λ x. x || q) (or_swap false p s)) ∙ or_swap (s || p) q r ∙ ap (λ x. x || q) (or_swap s p r) ∙ or_swap (s || r) p q

-- the last use first, as they are undone
pub some_back : (f g h k : List ℤ → Bool) (v : Quads) → on_some f g h k v ≡ k (list v.s) || h (list v.r) || g (list v.q) || f (list v.p)
some_back f g h k v = last_first (f (list v.p)) (g (list v.q)) (h (list v.r)) (k (list v.s))
