-- The last six lines of Figure 4.13, which go to a with d and to b with c in turn, as the two pairs' lines: what they leave computes, and their tests are joined in another order.
use mathlib.Core.Path.{◌≡◌, refl, sym, ◌∙◌, ap}
use mathlib.Core.Bool.{Bool, true, false, ◌||◌, ◌&&◌, or-true, or-false}
use mathlib.Core.List.{List, [], ◌∷◌}
use lib.IntN.{ℤ, pos}
use Rattle.lifting.specs.Program.{var, ◌⊕◌, ◌⊖◌, 3×, ◌≫◌, Line, ◌+=◌, ◌-=◌, Program, end, ◌⨾◌, at, line, back, run, undo, value_by, line_by, run_by, undo_by}
use Rattle.lifting.specs.Wraps.{value_wraps, line_wraps, wraps, undo_wraps}
use Rattle.lifting.proofs.Traces.{Goes, Comes, adds_two}
use Rattle.figures.specs.Letters.{a, b, c, d}
use Rattle.figures.specs.Pieces.{pair_scale}

unfoldable pub last_lines : Program
last_lines =
    a -= (var d ⊖ (3× (var d) ⊕ pos 16 ≫ 5))
    ⨾ b -= (var c ⊖ (3× (var c) ⊕ pos 16 ≫ 5))
    ⨾ d += (3× (var a) ⊕ pos 8 ≫ 4)
    ⨾ c += (3× (var b) ⊕ pos 8 ≫ 4)
    ⨾ a += (3× (var d) ⊕ pos 16 ≫ 5)
    ⨾ b += (3× (var c) ⊕ pos 16 ≫ 5)
    ⨾ end

-- the lines of one pair
abbrev first : Line
first = a -= (var b ⊖ (3× (var b) ⊕ pos 16 ≫ 5))

abbrev second : Line
second = b += (3× (var a) ⊕ pos 8 ≫ 4)

abbrev third : Line
third = a += (3× (var b) ⊕ pos 16 ≫ 5)

in_turn : (k1 l1 k2 l2 k3 l3 : Bool) → k1 || (l1 || (k2 || (l2 || (k3 || (l3 || false))))) ≡ (k1 || (k2 || (k3 || false))) || (l1 || (l2 || (l3 || false)))
in_turn true l1 k2 l2 k3 l3 = refl
in_turn false l1 true l2 k3 l3 = or-true l1
in_turn false l1 false l2 true l3 = ap (λ x. l1 || x) (or-true l2) ∙ or-true l1
in_turn false l1 false l2 false l3 = refl

back_in_turn : (k1 l1 k2 l2 k3 l3 : Bool) → l3 || k3 || l2 || k2 || l1 || k1 ≡ (k3 || k2 || k1) || (l3 || l2 || l1)
back_in_turn k1 l1 k2 l2 true l3 = rw (or-true l3)
back_in_turn k1 l1 true l2 false l3 = rw (or-true (l3 || false || l2))
back_in_turn true l1 false l2 false l3 = or-true (l3 || false || l2 || false || l1)
back_in_turn false l1 false l2 false l3 = rw (or-false l3, or-false (l3 || l2), or-false (l3 || l2 || l1))

pairs-wrap : (x y z w : ℤ) → wraps last_lines (x ∷ y ∷ z ∷ w ∷ []) ≡ wraps pair_scale (x ∷ w ∷ []) || wraps pair_scale (y ∷ z ∷ [])
unfolding wraps line_wraps value_wraps line_by value_by last_lines pair_scale
pairs-wrap x y z w =
    let o = x ∷ w ∷ [] in
    let i = y ∷ z ∷ [] in
    in_turn (line_wraps first o) (line_wraps first i) (line_wraps second (line first o)) (line_wraps second (line first i)) (line_wraps third (line second (line first o))) (line_wraps third (line second (line first i)))

pairs-undo-wrap : (x y z w : ℤ) → undo_wraps last_lines (x ∷ y ∷ z ∷ w ∷ []) ≡ undo_wraps pair_scale (x ∷ w ∷ []) || undo_wraps pair_scale (y ∷ z ∷ [])
unfolding undo_wraps undo_by back line_wraps value_wraps line_by value_by last_lines pair_scale
pairs-undo-wrap x y z w =
    let o = x ∷ w ∷ [] in
    let i = y ∷ z ∷ [] in
    let o3 = line (back third) o in
    let i3 = line (back third) i in
    back_in_turn (line_wraps (back first) (line (back second) o3)) (line_wraps (back first) (line (back second) i3)) (line_wraps (back second) o3) (line_wraps (back second) i3) (line_wraps (back third) o) (line_wraps (back third) i)

pairs-run : (x y z w : ℤ)
    → let o = run pair_scale (x ∷ w ∷ []) in
    let i = run pair_scale (y ∷ z ∷ []) in
    at o 0 ∷ at i 0 ∷ at i 1 ∷ at o 1 ∷ [] ≡ run last_lines (x ∷ y ∷ z ∷ w ∷ [])
unfolding run_by line_by value_by last_lines pair_scale
pairs-run x y z w = refl

pairs-undo : (x y z w : ℤ)
    → let o = undo pair_scale (x ∷ w ∷ []) in
    let i = undo pair_scale (y ∷ z ∷ []) in
    at o 0 ∷ at i 0 ∷ at i 1 ∷ at o 1 ∷ [] ≡ undo last_lines (x ∷ y ∷ z ∷ w ∷ [])
unfolding undo_by back line_by value_by last_lines pair_scale
pairs-undo x y z w = refl

-- two pairs, as a four
abbrev across : List ℤ → List ℤ → List ℤ
across o i = at o 0 ∷ at i 0 ∷ at i 1 ∷ at o 1 ∷ []

told-two : (t u k l : Bool) {p q : Bool} → p ≡ t && k → q ≡ t && l → u || p || q ≡ u || (t && (k || l))
told-two t u k l e f = adds_two t u k l (ap (λ x. u || x) e) f

-- what the two pairs' calls ensure and tell, as the six lines
module _ {t : Bool} {x y z w k l m n : ℤ} {p q : Bool} where
  pub pairs : record { done : k ∷ n ∷ [] ≡ run pair_scale (x ∷ w ∷ []); told : p ≡ t && wraps pair_scale (x ∷ w ∷ []) }
      → record { done : l ∷ m ∷ [] ≡ run pair_scale (y ∷ z ∷ []); told : q ≡ t && wraps pair_scale (y ∷ z ∷ []) }
      → Goes t last_lines (x ∷ y ∷ z ∷ w ∷ []) (k ∷ l ∷ m ∷ n ∷ []) (λ u. u || p || q)
  pairs e f = record {
    gives = ap (λ o. across o (l ∷ m ∷ [])) e.done ∙ ap (across (run pair_scale (x ∷ w ∷ []))) f.done ∙ pairs-run x y z w;
    tells = λ u. told-two t u _ _ e.told f.told ∙ ap (λ h. u || (t && h)) (sym (pairs-wrap x y z w));
  }

  pub unpairs : record { done : k ∷ n ∷ [] ≡ undo pair_scale (x ∷ w ∷ []); told : p ≡ t && undo_wraps pair_scale (x ∷ w ∷ []) }
      → record { done : l ∷ m ∷ [] ≡ undo pair_scale (y ∷ z ∷ []); told : q ≡ t && undo_wraps pair_scale (y ∷ z ∷ []) }
      → Comes t last_lines (x ∷ y ∷ z ∷ w ∷ []) (k ∷ l ∷ m ∷ n ∷ []) (λ u. u || p || q)
  unpairs e f = record {
    gives = ap (λ o. across o (l ∷ m ∷ [])) e.done ∙ ap (across (undo pair_scale (x ∷ w ∷ []))) f.done ∙ pairs-undo x y z w;
    tells = λ u. told-two t u _ _ e.told f.told ∙ ap (λ h. u || (t && h)) (sym (pairs-undo-wrap x y z w));
  }
