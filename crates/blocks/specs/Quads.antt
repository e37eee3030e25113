-- The sixteen numbers of a block as four fours, in the ways in which the stages of Figures 4.8 and 4.14 take them.
use Rattle.std.specs.Prelude.{◌≡◌, Bool, ◌||◌, List, [], ◌∷◌, ℤ}
use Rattle.figures.specs.Block.{list}
use Rattle.blocks.specs.declared.Quads.{Quads}

-- the fours at the places 0 1 4 5, 2 3 6 7, 8 12 9 13 and 10 11 14 15: the first stage of Figure 4.8
unfoldable pub quartered : Quads → List ℤ
quartered f =
    f.p.a ∷ f.p.b ∷ f.q.a ∷ f.q.b
    ∷ f.p.c ∷ f.p.d ∷ f.q.c ∷ f.q.d
    ∷ f.r.a ∷ f.r.c ∷ f.s.a ∷ f.s.b
    ∷ f.r.b ∷ f.r.d ∷ f.s.c ∷ f.s.d ∷ []

-- at the places 0 3 12 15, 1 2 13 14, 4 7 8 11 and 5 6 9 10: the second stage of Figure 4.8, and the first and last of Figure 4.14
unfoldable pub mirrored : Quads → List ℤ
mirrored f =
    f.p.a ∷ f.q.a ∷ f.q.b ∷ f.p.b
    ∷ f.r.a ∷ f.s.a ∷ f.s.b ∷ f.r.b
    ∷ f.r.c ∷ f.s.c ∷ f.s.d ∷ f.r.d
    ∷ f.p.c ∷ f.q.c ∷ f.q.d ∷ f.p.d ∷ []

-- the fours of w are what f, g, h and k make of those of v
pub record OnFours (f g h k : List ℤ → List ℤ) (v w : Quads) : Type 0 where
  pub p : list w.p ≡ f (list v.p)
  pub q : list w.q ≡ g (list v.q)
  pub r : list w.r ≡ h (list v.r)
  pub s : list w.s ≡ k (list v.s)

abbrev pub OnEach : (List ℤ → List ℤ) → Quads → Quads → Type 0
OnEach f v w = OnFours f f f f v w

-- f holds of the first four, or g of the second, or h of the third, or k of the last
abbrev pub on_some : (f g h k : List ℤ → Bool) → Quads → Bool
on_some f g h k v = f (list v.p) || g (list v.q) || h (list v.r) || k (list v.s)

abbrev pub on_any : (List ℤ → Bool) → Quads → Bool
on_any f v = on_some f f f f v
