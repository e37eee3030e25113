-- A valid program wraps when it is run on a row if and only if it wraps when it is undone from what it gave. Of a line: the variable is in the 32-bit range and undoing
-- gives it back, so that the sum is exact there if and only if the difference is exact back; the expression reads the same numbers both ways. The rest is by induction on the program.
use Prim.Native.Nat.{ℕ, ◌<◌}
use mathlib.Core.Path.{◌≡◌, refl, sym, ◌∙◌, ap}
use mathlib.Core.Bool.{Bool, true, false, not, ◌&&◌, ◌||◌, or_comm}
use mathlib.Core.List.{List}
use native.Mathlib.Omega.{arith}
use lib.Dec.{T, ltb, ltb→lt}
use lib.ListN.{length, set}
use lib.Seq.{get_or-set_same}
use lib.IntN.{ℤ, pos, neg_ℤ, neg_ℤ-neg_ℤ, neg_ℤ-+ℤ, +ℤ_assoc, +ℤ_invr, +ℤ_idl, +ℤ-neg_ℤ_cancel, -ℤ-+ℤ_cancel, ◌+ℤ◌, ◌-ℤ◌}
use mir.Val.{SFits}
use mir.Syntax.{w32}
use mir.Facts.{and_yes}
use Rattle.lifting.specs.Wrap.{wrap}
use Rattle.lifting.specs.Program.{Expr, var, ◌⊕◌, ◌⊖◌, 3×, ◌≫◌, Line, ◌+=◌, ◌-=◌, ◌from◌, neg, swap, Program, end, ◌⨾◌, reorder, apply, at, value, line, get, put, run, back, undo, line_by, run_by}
use Rattle.lifting.specs.Row.{Row}
use Rattle.lifting.specs.Valid.{without, valid_line, places, undoes, valid}
use Rattle.lifting.specs.Wraps.{same, changes, value_wraps, line_wraps, wraps, undo_wraps}
use Rattle.lifting.proofs.WrapLaws.{add-sub, sub-add, from_from, neg-neg}
use Rattle.lifting.proofs.Reverse.{row_line, row_get, row_put, row-reorder, row-run, row-undo, value_set, get-put, undo-run, run-undo}
use Rattle.lifting.proofs.NoWrap.{same_refl, same_eq}

-- ---- a sum

-- two tests that are each other's reason
both_ways : (a b : Bool) → (T a → T b) → (T b → T a) → a ≡ b
both_ways true true f g = refl
both_ways true false f g = absurd (f tt)
both_ways false true f g = absurd (g tt)
both_ways false false f g = refl

same_yes : {x y : ℤ} → x ≡ y → T (same x y)
same_yes {x} e = rw (← e, same_refl x) tt

-- what an expression reads does not change with a variable that it does not have
value-wraps-set : (n : ℕ) (e : Expr) (v : List ℤ) (i : ℕ) (x : ℤ) → T (without n i e) → value_wraps e (set v i x) ≡ value_wraps e v
unfolding value_wraps
value-wraps-set n (var j) v i x t = refl
value-wraps-set n (e ⊕ k) v i x t = rw (value-wraps-set n e v i x t, value_set n e v i x t)
value-wraps-set n (e ⊖ f) v i x t =
    let h = and_yes (without n i e) (without n i f) t in
    rw (value-wraps-set n e v i x h.0, value-wraps-set n f v i x h.1, value_set n e v i x h.0, value_set n f v i x h.1)
value-wraps-set n (3× e) v i x t = rw (value-wraps-set n e v i x t, value_set n e v i x t)
value-wraps-set n (e ≫ k) v i x t = value-wraps-set n e v i x t

-- F on a variable in the range, taken back by G: over whole integers, and over 32 bits
module _ (F G : ℤ → ℤ → ℤ) (G-F : (a t : ℤ) → G (F a t) t ≡ a) (F-G : (a t : ℤ) → F (G a t) t ≡ a) (back-F : (a t : ℤ) → SFits w32 a → wrap (G (wrap (F a t)) t) ≡ a) where
  change_turned : (a t : ℤ) → SFits w32 a → changes (F a t) ≡ changes (G (wrap (F a t)) t)
  unfolding changes
  change_turned a t f =
      let w = wrap (F a t) in
      let e : same w (F a t) ≡ same a (G w t) = both_ways (same w (F a t)) (same a (G w t))
      (λ h. same_yes (sym (ap (λ z. G z t) (same_eq w (F a t) h) ∙ G-F a t)))
      (λ h. same_yes (sym (ap (λ z. F z t) (same_eq a (G w t) h) ∙ F-G w t))) in
      rw (back-F a t f) (ap not e)

  update_turned : {n : ℕ} {v : List ℤ} (i : ℕ) (e : Expr) → T (ltb i n && without n i e) → Row n v
      → let w = set v i (wrap (F (at v i) (value e v))) in value_wraps e v || changes (F (at v i) (value e v)) ≡ value_wraps e w || changes (G (at w i) (value e w))
  update_turned {n} {v} i e t r =
      let (b, c) = and_yes (ltb i n) _ t in
      let h : i < length v = omega (arith, ltb→lt i n b, r.len) in
      let x = wrap (F (at v i) (value e v)) in
      rw (get_or-set_same v i x (pos 0) h, value_set n e v i x c, value-wraps-set n e v i x c) (ap (λ y. value_wraps e v || y) (change_turned (at v i) (value e v) (r.fit i)))

from_again : (a t : ℤ) → t -ℤ (t -ℤ a) ≡ a
from_again a t = rw (neg_ℤ-+ℤ t (neg_ℤ a), ← +ℤ_assoc t (neg_ℤ t) (neg_ℤ (neg_ℤ a)), +ℤ_invr t, +ℤ_idl (neg_ℤ (neg_ℤ a)), neg_ℤ-neg_ℤ a)

line_turned : {n : ℕ} {v : List ℤ} (l : Line) → T (valid_line n l) → Row n v → line_wraps l v ≡ line_wraps (back l) (line l v)
unfolding line_by line_wraps back
line_turned (i += e) t r = update_turned (λ a x. a +ℤ x) (λ a x. a -ℤ x) +ℤ-neg_ℤ_cancel -ℤ-+ℤ_cancel (λ a x f. add-sub x f) i e t r
line_turned (i -= e) t r = update_turned (λ a x. a -ℤ x) (λ a x. a +ℤ x) -ℤ-+ℤ_cancel +ℤ-neg_ℤ_cancel (λ a x f. sub-add x f) i e t r
line_turned (i from e) t r = update_turned (λ a x. x -ℤ a) (λ a x. x -ℤ a) from_again from_again (λ a x f. from_from x f) i e t r
line_turned {n} {v} (neg i) t r =
    rw (get_or-set_same v i (wrap (neg_ℤ (at v i))) (pos 0) (omega (arith, ltb→lt i n t, r.len)))
    (change_turned (λ a x. neg_ℤ a) (λ a x. neg_ℤ a) (λ a x. neg_ℤ-neg_ℤ a) (λ a x. neg_ℤ-neg_ℤ a) (λ a x f. neg-neg f) (at v i) (pos 0) (r.fit i))
line_turned (swap i j) t r = refl

-- ---- a program

pub wraps_turned : {n : ℕ} {v : List ℤ} (p : Program) → T (valid n p) → Row n v → wraps p v ≡ undo_wraps p (run p v)
unfolding run_by wraps undo_wraps
wraps_turned end t r = refl
wraps_turned {n} {v} (l ⨾ p) t r =
    let (a, b) = and_yes (valid_line n l) _ t in
    let w = row_line l r in
    rw (undo-run p b w, ← wraps_turned {v = line l v} p b w, ← line_turned l a r) (or_comm (line_wraps l v) (wraps p (line l v)))
wraps_turned {n} {v} (reorder to back p) t r =
    let (a, b) = and_yes (undoes n to back) _ t in
    let (c, d) = and_yes (undoes n back to) _ b in
    wraps_turned {v = get back v} p d (row-reorder back to c r)
wraps_turned {n} {v} (apply o s ps p) t r =
    let (a, b) = and_yes (places n ps) _ t in
    let (c, d) = and_yes (valid (length ps) s) _ b in
    let g = row_get ps r in
    let y = row-run s c g in
    let w = row_put ps y r in
    rw (undo-run p d w, ← wraps_turned {n = n} {v = put ps (run s (get ps v)) v} p d w, get-put ps (run s (get ps v)) v a y.len r.len, ← wraps_turned {n = length ps} {v = get ps v} s c g) (or_comm (wraps s (get ps v)) (wraps p (put ps (run s (get ps v)) v)))

pub undo_wraps_turned : {n : ℕ} {v : List ℤ} (p : Program) → T (valid n p) → Row n v → undo_wraps p v ≡ wraps p (undo p v)
undo_wraps_turned {n} {v} p t r = ap (undo_wraps p) (sym (run-undo p t r)) ∙ sym (wraps_turned p t (row-undo p t r))
