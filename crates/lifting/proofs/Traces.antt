-- A figure gone through line by line, by what each line's calls ensure, with the concrete row of numbers that the line leaves:
-- what it leaves at the end, and whether a reduction changed a number on the way. A number is the one that a local holds, `kept x`.
-- What is told is told as a function that adds to what was told before, so that a figure's tests come out joined in the order and the
-- grouping of the code: `a | b | c`.
use Prim.Native.Nat.{ℕ, ◌^◌, ◌<◌}
use mathlib.Core.Path.{◌≡◌, refl, ◌∙◌, ap, sym}
use mathlib.Core.Bool.{Bool, false, ◌||◌, ◌&&◌, or_assoc, or-false, and-false, and-or_distrib_left}
use mathlib.Core.List.{List, [], ◌∷◌}
use lib.ListN.{set}
use lib.IntN.{ℤ, pos, neg_ℤ, ◌+ℤ◌, ◌-ℤ◌, ◌*ℤ◌}
use lib.Signed.{mag, shr_z}
use mir.Val.{SFits, to_z, of_z}
use mir.Syntax.{w32}
use mir.ValLaws.{to_z-of_z}
use Rattle.lifting.specs.Wrap.{wrap}
use Rattle.lifting.specs.Program.{Expr, var, ◌⊕◌, ◌⊖◌, 3×, ◌≫◌, Line, ◌+=◌, ◌-=◌, ◌from◌, neg, swap, Program, Operator, end, ◌⨾◌, apply, at, get, put, ◌then◌, value, line, back, run, undo, value_by, line_by, run_by, undo_by}
use Rattle.lifting.specs.Wraps.{changes, value_wraps, line_wraps, wraps, undo_wraps}
use Rattle.lifting.proofs.Bits.{again, again_shr, back as read_back}
use Rattle.lifting.proofs.Compose.{run_then, undo_then}
use Rattle.lifting.proofs.NoWrap.{wraps_then, undo_wraps_then}

abbrev kept : ℤ → ℤ
kept x = to_z w32 (of_z w32 x)

-- f adds b to what was told, where t asks
abbrev pub Adds : Bool → (Bool → Bool) → Bool → Type 0
Adds t f b = (w : Bool) → f w ≡ w || (t && b)

adds_none : (t w : Bool) → w ≡ w || (t && false)
adds_none t w = rw (and-false t) (sym (or-false w))

pub adds_two : (t w x y : Bool) {m l : Bool} → m ≡ w || (t && x) → l ≡ t && y → m || l ≡ w || (t && (x || y))
adds_two t w x y e d = rw (e, d, and-or_distrib_left t x y) (or_assoc w (t && x) (t && y))

-- a step's answer x is z, and l says whether b, where t asks
abbrev pub Step : Bool → ℤ → ℤ → Bool → Bool → Type 0
Step t x z l b = record { value : x ≡ z; told : l ≡ t && b }

-- ---- what stands on the right of a line

-- y is the number that e stands for
pub record Value (t : Bool) (e : Expr) (v : List ℤ) (y : ℤ) (f : Bool → Bool) : Type 0 where
  pub gives : y ≡ value e v
  pub tells : Adds t f (value_wraps e v)

pub number : {t : Bool} {i : ℕ} {v : List ℤ} → Value t (var i) v (at v i) (λ w. w)
unfolding value_by value_wraps
number {t} = record { gives = refl; tells = adds_none t }

module _ {t : Bool} {e : Expr} {v : List ℤ} {x y : ℤ} {f : Bool → Bool} where
  pub shifted : {k : ℕ} → Value t e v x f → mag y < 2147483648 → y ≡ shr_z x (2 ^ k) → Value t (e ≫ k) v (kept y) f
  unfolding value_by value_wraps
  shifted {k} a s c = record { gives = read_back s ∙ c ∙ ap (λ z. shr_z z (2 ^ k)) a.gives; tells = a.tells }

  pub rounded : {k : ℤ} {s : ℕ} {l : Bool} → Value t e v x f → Step t y (shr_z (wrap (x +ℤ k)) (2 ^ s)) l (changes (x +ℤ k)) → Value t (e ⊕ k ≫ s) v (kept y) (λ w. f w || l)
  unfolding value_by value_wraps
  rounded {k} {s} a c = record {
    gives = ap kept c.value ∙ again_shr _ _ ∙ ap (λ z. shr_z (wrap (z +ℤ k)) (2 ^ s)) a.gives;
    tells = λ w. adds_two t w _ _ (a.tells w) (c.told ∙ ap (λ z. t && changes (z +ℤ k)) a.gives);
  }

  pub scaled : {k : ℤ} {s : ℕ} {l : Bool}
      → Value t e v x f → Step t y (shr_z (wrap (wrap (pos 3 *ℤ x) +ℤ k)) (2 ^ s)) l (changes (pos 3 *ℤ x) || changes (wrap (pos 3 *ℤ x) +ℤ k))
      → Value t (3× e ⊕ k ≫ s) v (kept y) (λ w. f w || l)
  unfolding value_by value_wraps
  scaled {k} {s} a c = record {
    gives = ap kept c.value ∙ again_shr _ _ ∙ ap (λ z. shr_z (wrap (wrap (pos 3 *ℤ z) +ℤ k)) (2 ^ s)) a.gives;
    tells = λ w. adds_two t w _ _ (a.tells w) (c.told ∙ ap (λ z. t && (changes (pos 3 *ℤ z) || changes (wrap (pos 3 *ℤ z) +ℤ k))) a.gives) ∙ ap (λ z. w || (t && z)) (sym (or_assoc (value_wraps e v) _ _));
  }

  pub difference : {d : Expr} {z : ℤ} {g : Bool → Bool} {l : Bool}
      → Value t e v x f → Value t d v y g → Step t z (wrap (x -ℤ y)) l (changes (x -ℤ y)) → Value t (e ⊖ d) v (kept z) (λ w. g (f w) || l)
  unfolding value_by value_wraps
  difference a b c = record {
    gives = ap kept c.value ∙ again _ ∙ rw (a.gives, b.gives);
    tells = λ w. adds_two t w _ _ (b.tells (f w) ∙ adds_two t w _ _ (a.tells w) refl) (c.told ∙ rw (a.gives, b.gives));
  }

-- ---- one line

-- l leaves u of v
pub record Did (t : Bool) (l : Line) (v u : List ℤ) (f : Bool → Bool) : Type 0 where
  pub gives : u ≡ line l v
  pub tells : Adds t f (line_wraps l v)

module _ {t : Bool} {i : ℕ} {e : Expr} {v : List ℤ} {x y : ℤ} {f : Bool → Bool} {l : Bool} where
  pub plus : Value t e v y f → Step t x (wrap (at v i +ℤ y)) l (changes (at v i +ℤ y)) → Did t (i += e) v (set v i (kept x)) (λ w. f w || l)
  unfolding line_by line_wraps
  plus a c = record { gives = ap (set v i) (ap kept c.value ∙ again _ ∙ ap (λ z. wrap (at v i +ℤ z)) a.gives); tells = λ w. adds_two t w _ _ (a.tells w) (c.told ∙ ap (λ z. t && changes (at v i +ℤ z)) a.gives) }

  pub minus : Value t e v y f → Step t x (wrap (at v i -ℤ y)) l (changes (at v i -ℤ y)) → Did t (i -= e) v (set v i (kept x)) (λ w. f w || l)
  unfolding line_by line_wraps
  minus a c = record { gives = ap (set v i) (ap kept c.value ∙ again _ ∙ ap (λ z. wrap (at v i -ℤ z)) a.gives); tells = λ w. adds_two t w _ _ (a.tells w) (c.told ∙ ap (λ z. t && changes (at v i -ℤ z)) a.gives) }

  pub taken : Value t e v y f → Step t x (wrap (y -ℤ at v i)) l (changes (y -ℤ at v i)) → Did t (i from e) v (set v i (kept x)) (λ w. f w || l)
  unfolding line_by line_wraps
  taken a c = record { gives = ap (set v i) (ap kept c.value ∙ again _ ∙ ap (λ z. wrap (z -ℤ at v i)) a.gives); tells = λ w. adds_two t w _ _ (a.tells w) (c.told ∙ ap (λ z. t && changes (z -ℤ at v i)) a.gives) }

pub negated : {t : Bool} {i : ℕ} {v : List ℤ} {x : ℤ} {l : Bool} → Step t x (wrap (neg_ℤ (at v i))) l (changes (neg_ℤ (at v i))) → Did t (neg i) v (set v i (kept x)) (λ w. w || l)
unfolding line_by line_wraps
negated {i} {v} c = record { gives = ap (set v i) (ap kept c.value ∙ again _); tells = λ w. ap (λ z. w || z) c.told }

pub swapped : {t : Bool} {i j : ℕ} {v : List ℤ} → Did t (swap i j) v (set (set v i (at v j)) j (at v i)) (λ w. w)
unfolding line_by line_wraps
swapped {t} = record { gives = refl; tells = adds_none t }

-- ---- from the first line to the last

-- p leaves r of v
pub record Goes (t : Bool) (p : Program) (v r : List ℤ) (f : Bool → Bool) : Type 0 where
  pub gives : r ≡ run p v
  pub tells : Adds t f (wraps p v)

pub at-end : {t : Bool} {v : List ℤ} → Goes t end v v (λ w. w)
unfolding run_by wraps
at-end {t} = record { gives = refl; tells = adds_none t }

module _ {t : Bool} {p : Program} {v r : List ℤ} {g : Bool → Bool} where
  infixr 30 ◌⇒◌
  pub ◌⇒◌ : {u : List ℤ} {f : Bool → Bool} {l : Line} → Did t l v u f → Goes t p u r g → Goes t (l ⨾ p) v r (λ w. g (f w))
  unfolding run_by wraps
  ◌⇒◌ {f} d q = record { gives = q.gives ∙ ap (run p) d.gives; tells = λ w. q.tells (f w) ∙ adds_two t w _ _ (d.tells w) (ap (λ z. t && wraps p z) d.gives) }

  -- a use of an operator
  infixr 30 ◌▸◌
  pub ◌▸◌ : {o : Operator} {s : Program} {ps : List ℕ} {x : List ℤ} {l : Bool}
      → record { done : x ≡ run s (get ps v); told : l ≡ t && wraps s (get ps v) } → Goes t p (put ps x v) r g → Goes t (apply o s ps p) v r (λ w. g (w || l))
  unfolding run_by wraps
  ◌▸◌ {ps} {l} d q = record {
    gives = q.gives ∙ ap (λ z. run p (put ps z v)) d.done;
    tells = λ w. q.tells (w || l) ∙ adds_two t w _ _ (ap (λ z. w || z) d.told) (ap (λ z. t && wraps p (put ps z v)) d.done);
  }

-- ---- undone, from the last line to the first

pub record Comes (t : Bool) (p : Program) (v r : List ℤ) (f : Bool → Bool) : Type 0 where
  pub gives : r ≡ undo p v
  pub tells : Adds t f (undo_wraps p v)

pub at_start : {t : Bool} {v : List ℤ} → Comes t end v v (λ w. w)
unfolding undo_by undo_wraps
at_start {t} = record { gives = refl; tells = adds_none t }

module _ {t : Bool} {p : Program} {v u : List ℤ} {f : Bool → Bool} where
  infixl 30 ◌⇐◌
  pub ◌⇐◌ : {l : Line} {r : List ℤ} {g : Bool → Bool} → Comes t p v u f → Did t (back l) u r g → Comes t (l ⨾ p) v r (λ w. g (f w))
  unfolding undo_by undo_wraps
  ◌⇐◌ {l} q d = record {
    gives = d.gives ∙ ap (line (back l)) q.gives;
    tells = λ w. d.tells (f w) ∙ adds_two t w _ _ (q.tells w) (ap (λ z. t && line_wraps (back l) z) q.gives);
  }

  infixl 30 ◌◂◌
  pub ◌◂◌ : {o : Operator} {s : Program} {ps : List ℕ} {x : List ℤ} {l : Bool}
      → Comes t p v u f → record { done : x ≡ undo s (get ps u); told : l ≡ t && undo_wraps s (get ps u) } → Comes t (apply o s ps p) v (put ps x u) (λ w. f w || l)
  unfolding undo_by undo_wraps
  ◌◂◌ {s} {ps} q d = record {
    gives = rw (d.done, q.gives);
    tells = λ w. adds_two t w _ _ (q.tells w) (d.told ∙ ap (λ z. t && undo_wraps s (get ps z)) q.gives);
  }

-- ---- programs one after the other, of which some are known by a call

module _ {t : Bool} {p : Program} {v r : List ℤ} {l : Bool} where
  pub called : record { done : r ≡ run p v; told : l ≡ t && wraps p v } → Goes t p v r (λ w. w || l)
  called e = record { gives = e.done; tells = λ w. ap (λ z. w || z) e.told }

  pub uncalled : record { done : r ≡ undo p v; told : l ≡ t && undo_wraps p v } → Comes t p v r (λ w. w || l)
  uncalled e = record { gives = e.done; tells = λ w. ap (λ z. w || z) e.told }

module _ {t : Bool} {p q : Program} {v u r : List ℤ} {f g : Bool → Bool} where
  pub and_then : Goes t p v u f → Goes t q u r g → Goes t (p then q) v r (λ w. g (f w))
  and_then a b = record {
    gives = b.gives ∙ ap (run q) a.gives ∙ sym (run_then p q v);
    tells = λ w. b.tells (f w) ∙ adds_two t w _ _ (a.tells w) (ap (λ z. t && wraps q z) a.gives) ∙ ap (λ z. w || (t && z)) (sym (wraps_then p q v));
  }

  -- undone, the second program comes first
  pub and-back : Comes t q v u f → Comes t p u r g → Comes t (p then q) v r (λ w. g (f w))
  and-back a b = record {
    gives = b.gives ∙ ap (undo p) a.gives ∙ sym (undo_then p q v);
    tells = λ w. b.tells (f w) ∙ adds_two t w _ _ (a.tells w) (ap (λ z. t && undo_wraps p z) a.gives) ∙ ap (λ z. w || (t && z)) (sym (undo_wraps_then p q v));
  }

-- ---- the figure on numbers that were read

pub two_read : {a b : ℤ} → SFits w32 a → SFits w32 b → kept a ∷ kept b ∷ [] ≡ a ∷ b ∷ []
two_read e f = rw (to_z-of_z w32 _ e, to_z-of_z w32 _ f)

pub four_read : {a b c d : ℤ} → SFits w32 a → SFits w32 b → SFits w32 c → SFits w32 d → kept a ∷ kept b ∷ kept c ∷ kept d ∷ [] ≡ a ∷ b ∷ c ∷ d ∷ []
four_read e f g h = rw (to_z-of_z w32 _ e, to_z-of_z w32 _ f, to_z-of_z w32 _ g, to_z-of_z w32 _ h)

pub ran : (t : Bool) (p : Program) (v : List ℤ) {u r : List ℤ} {f : Bool → Bool} → u ≡ v → Goes t p u r f → record { done : r ≡ run p v; told : f false ≡ t && wraps p v }
ran t p v e g = record { done = g.gives ∙ ap (run p) e; told = g.tells false ∙ ap (λ z. t && wraps p z) e }

pub undone : (t : Bool) (p : Program) (v : List ℤ) {u r : List ℤ} {f : Bool → Bool} → u ≡ v → Comes t p u r f → record { done : r ≡ undo p v; told : f false ≡ t && undo_wraps p v }
undone t p v e g = record { done = g.gives ∙ ap (undo p) e; told = g.tells false ∙ ap (λ z. t && undo_wraps p z) e }
