-- Four places in a line, and squares, of a grid: what each read, store or call says, rewritten one after the other.
use Prim.Native.Nat.{ℕ, ◌+◌, ◌<◌}
use mathlib.Core.Path.{◌≡◌, refl, ◌∙◌, ap}
use mathlib.Core.List.{List, [], ◌∷◌, ◌++◌}
use native.Mathlib.Omega.{arith}
use lib.ListN.{get_or}
use lib.IntN.{ℤ}
use lib.Signed.{mag}
use mir.Syntax.{w32}
use mir.Val.{SFits}
use mir.ValLaws.{to_z-of_z}
use Rattle.lifting.specs.Program.{Program, Operator, end, apply, at, get, put, run, run_by}
use Rattle.lifting.proofs.Bits.{back}
use Rattle.figures.specs.Block.{four, flat}
use Rattle.figures.proofs.Parts.{kept}
use Rattle.transform.specs.Level.{strip, square}
use Rattle.picture.specs.Table.{table}
use Rattle.transform.specs.Grids.{coefficients}

rows : {x x' y y' z z' w w' : List ℤ} → x ≡ x' → y ≡ y' → z ≡ z' → w ≡ w' → x ++ (y ++ (z ++ w)) ≡ x' ++ (y' ++ (z' ++ w'))
rows a b c d = rw (a, b, c, d)

pub square_read : (v : List ℤ) (w i : ℕ) (p q r s : List ℤ)
    → four p ≡ get (strip 1 i) v → four q ≡ get (strip 1 (i + w)) v → four r ≡ get (strip 1 (i + w + w)) v → four s ≡ get (strip 1 (i + w + w + w)) v
    → flat (p ∷ q ∷ r ∷ s ∷ []) ≡ get (square w i) v
unfolding get flat square
square_read v w i p q r s a b c d = rows a b c d

-- the same, where coefficient 0 is x and coefficients 1 to 15 stand one after another from place i of a list
fours_same : (v : List ℤ) {a b c d a' b' c' d' : ℕ} → a ≡ a' → b ≡ b' → c ≡ c' → d ≡ d'
    → at v a ∷ at v b ∷ at v c ∷ at v d ∷ [] ≡ at v a' ∷ at v b' ∷ at v c' ∷ at v d' ∷ []
fours_same v a b c d = rw (a, b, c, d)

pub square-rows : (x : ℤ) (v : List ℤ) (i : ℕ) (second third fourth : List ℤ)
    → SFits w32 x → mag (at v i) < 2147483648 → mag (at v (i + 1)) < 2147483648 → mag (at v (i + 2)) < 2147483648
    → four second ≡ get (strip 1 (i + 3)) v → four third ≡ get (strip 1 (i + 7)) v → four fourth ≡ get (strip 1 (i + 11)) v
    → flat ((kept x ∷ kept (at v i) ∷ kept (at v (i + 1)) ∷ kept (at v (i + 2)) ∷ []) ∷ second ∷ third ∷ fourth ∷ []) ≡ table 16 (coefficients x (λ k. at v (i + k)))
unfolding flat get table
square-rows x v i second third fourth f g h l b c d =
    rows top
    (b ∙ fours_same v refl (omega arith) (omega arith) (omega arith))
    (c ∙ fours_same v refl (omega arith) (omega arith) (omega arith))
    (d ∙ fours_same v refl (omega arith) (omega arith) (omega arith))
  where
    zero_more : (n : ℕ) → n ≡ n + 0
    zero_more n = omega arith

    top : kept x ∷ kept (at v i) ∷ kept (at v (i + 1)) ∷ kept (at v (i + 2)) ∷ [] ≡ x ∷ at v (i + 0) ∷ at v (i + 1) ∷ at v (i + 2) ∷ []
    top = rw (to_z-of_z w32 x f, back g, back h, back l) (ap (λ n. x ∷ at v n ∷ at v (i + 1) ∷ at v (i + 2) ∷ []) (zero_more i))

pub square_stored : (v : List ℤ) (w i : ℕ) (m : List (List ℤ)) {v1 v2 v3 v4 : List ℤ}
    → v1 ≡ put (strip 1 i) (four (get_or m 0 [])) v → v2 ≡ put (strip 1 (i + w)) (four (get_or m 1 [])) v1
    → v3 ≡ put (strip 1 (i + w + w)) (four (get_or m 2 [])) v2 → v4 ≡ put (strip 1 (i + w + w + w)) (four (get_or m 3 [])) v3
    → v4 ≡ put (square w i) (flat m) v
unfolding put flat square
square_stored v w i m a b c d = rw (d, c, b, a)

-- one use of an operator: the numbers at its places, what it makes of them, and these at its places
pub used : (o : Operator) (s : Program) (ps : List ℕ) (v x y : List ℤ) {u : List ℤ} → x ≡ get ps v → y ≡ run s x → u ≡ put ps y v → u ≡ run (apply o s ps end) v
unfolding run_by
used o s ps v x y a b c = rw (c, b, a)
