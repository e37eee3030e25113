-- Programs one after another are valid where each is, by induction on the first; places moved by a map that keeps them apart stay apart.
use Prim.Native.Nat.{ℕ, ◌<◌}
use mathlib.Core.Path.{◌≡◌}
use mathlib.Core.Bool.{not}
use mathlib.Core.List.{List, [], ◌∷◌, map}
use lib.Dec.{T, ltb, eqb, ltb→lt, lt→ltb, eqb→eq}
use lib.ListN.{length}
use mir.Facts.{and_yes, yes_and, not_T}
use Rattle.lifting.specs.Program.{Program, end, ◌⨾◌, reorder, apply, ◌then◌}
use Rattle.lifting.specs.Valid.{valid_line, not_in, places, undoes, valid}
use Rattle.lifting.proofs.Reverse.{apart}

pub valid_then : (n : ℕ) (p q : Program) → T (valid n p) → T (valid n q) → T (valid n (p then q))
unfolding ◌then◌
valid_then n end q s t = t
valid_then n (l ⨾ p) q s t = let (a, b) = and_yes (valid_line n l) _ s in yes_and (valid_line n l) _ a (valid_then n p q b t)
valid_then n (reorder to back p) q s t =
    let (a, b) = and_yes (undoes n to back) _ s in
    let (c, d) = and_yes (undoes n back to) _ b in
    yes_and (undoes n to back) _ a (yes_and (undoes n back to) _ c (valid_then n p q d t))
valid_then n (apply o r ps p) q s t =
    let (a, b) = and_yes (places n ps) _ s in
    let (c, d) = and_yes (valid (length ps) r) _ b in
    yes_and (places n ps) _ a (yes_and (valid (length ps) r) _ c (valid_then n p q d t))

-- places moved by a map that keeps them apart
module _ (m n : ℕ) (g : ℕ → ℕ) (low : (i : ℕ) → i < m → g i < n) (inj : (i j : ℕ) → i < m → j < m → g i ≡ g j → i ≡ j) where
  not_in-map : (i : ℕ) (ps : List ℕ) → i < m → T (places m ps) → T (not_in i ps) → T (not_in (g i) (map g ps))
  not_in-map i [] h t u = tt
  not_in-map i (p ∷ ps) h t u =
      let (a, b) = and_yes (ltb p m) _ t in
      let (c, d) = and_yes (not_in p ps) _ b in
      let (e, f) = and_yes (not (eqb i p)) _ u in
      yes_and (not (eqb (g i) (g p))) _ (not_T (eqb (g i) (g p)) (λ q. apart i p e (inj i p h (ltb→lt p m a) (eqb→eq (g i) (g p) q)))) (not_in-map i ps h d f)

  pub places-map : (ps : List ℕ) → T (places m ps) → T (places n (map g ps))
  places-map [] t = tt
  places-map (p ∷ ps) t =
      let (a, b) = and_yes (ltb p m) _ t in
      let (c, d) = and_yes (not_in p ps) _ b in
      let h = ltb→lt p m a in
      yes_and (ltb (g p) n) _ (lt→ltb (g p) n (low p h)) (yes_and (not_in (g p) (map g ps)) _ (not_in-map p ps h d c) (places-map ps d))
