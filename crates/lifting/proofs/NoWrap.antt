-- Where nothing wraps, a program does over 32 bits what it does over whole integers. How `wraps` goes through programs one after another,
-- uses, and undoing, which is the run of the program turned around: all by induction on the program.
use Prim.Native.Nat.{ℕ, suc}
use mathlib.Core.Path.{◌≡◌, refl, sym, ◌∙◌, ap}
use mathlib.Core.Bool.{Bool, true, false, not, ◌||◌, or_assoc, or-false}
use mathlib.Core.List.{List}
use native.Mathlib.Omega.{arith}
use lib.Dec.{T, eqb, eqb→eq, eqb_refl}
use lib.IntN.{ℤ, pos, negsuc}
use mir.Val.{SFits}
use mir.Syntax.{w32}
use Rattle.lifting.specs.Wrap.{wrap}
use Rattle.lifting.specs.Program.{Expr, var, ◌⊕◌, ◌⊖◌, 3×, ◌≫◌, Line, ◌+=◌, ◌-=◌, ◌from◌, neg, swap, Operator, Program, end, ◌⨾◌, reorder, apply, value, line, get, put, run, back, undo, ◌then◌, each, value_by, line_by, run_by, undo_by}
use Rattle.lifting.specs.Wraps.{same, changes, value_wraps, line_wraps, wraps, undo_wraps, exact_run, exact_undo}
use Rattle.lifting.proofs.Tests.{or_no}
use Rattle.lifting.proofs.WrapLaws.{wrap_id}
use Rattle.lifting.proofs.Compose.{run_then, undo_then}

-- ---- a number that is not changed

is_true : (b : Bool) → T b → b ≡ true
is_true true t = refl
is_true false t = absurd t

not_false : (b : Bool) → not b ≡ false → T b
not_false true h = tt
not_false false h = let z : ◌≡◌ {A = ℕ} 0 1 = cc in absurd (omega arith)

pub same_refl : (z : ℤ) → same z z ≡ true
same_refl (pos n) = is_true (eqb n n) (eqb_refl n)
same_refl (negsuc n) = is_true (eqb n n) (eqb_refl n)

pub same_eq : (x y : ℤ) → T (same x y) → x ≡ y
same_eq (pos a) (pos b) t = ap pos (eqb→eq a b t)
same_eq (pos a) (negsuc b) t = absurd t
same_eq (negsuc a) (pos b) t = absurd t
same_eq (negsuc a) (negsuc b) t = ap negsuc (eqb→eq a b t)

-- a number in the range is not changed, and what is not changed is its reduction
pub fits-calm : {z : ℤ} → SFits w32 z → changes z ≡ false
unfolding changes
fits-calm {z} f = rw (wrap_id f, same_refl z)

pub calm : (z : ℤ) → changes z ≡ false → wrap z ≡ z
unfolding changes
calm z h = same_eq (wrap z) z (not_false (same (wrap z) z) h)

-- ---- where nothing wraps, the steps are those over whole integers

value_exact : (e : Expr) (v : List ℤ) → value_wraps e v ≡ false → value e v ≡ value_by (λ z. z) e v
unfolding value_by value_wraps
value_exact (var i) v h = refl
value_exact (e ⊕ k) v h = let (a, b) = or_no (value_wraps e v) _ h in rw (calm _ b, value_exact e v a)
value_exact (e ⊖ f) v h =
    let (ab, c) = or_no (value_wraps e v || value_wraps f v) _ h in
    let (a, b) = or_no (value_wraps e v) _ ab in
    rw (calm _ c, value_exact e v a, value_exact f v b)
value_exact (3× e) v h = let (a, b) = or_no (value_wraps e v) _ h in rw (calm _ b, value_exact e v a)
value_exact (e ≫ k) v h = rw (value_exact e v h)

line_exact : (l : Line) (v : List ℤ) → line_wraps l v ≡ false → line l v ≡ line_by (λ z. z) l v
unfolding line_by line_wraps
line_exact (i += e) v h = let (a, b) = or_no (value_wraps e v) _ h in rw (calm _ b, value_exact e v a)
line_exact (i -= e) v h = let (a, b) = or_no (value_wraps e v) _ h in rw (calm _ b, value_exact e v a)
line_exact (i from e) v h = let (a, b) = or_no (value_wraps e v) _ h in rw (calm _ b, value_exact e v a)
line_exact (neg i) v h = rw (calm _ h)
line_exact (swap i j) v h = refl

pub run_exact : (p : Program) (v : List ℤ) → wraps p v ≡ false → run p v ≡ exact_run p v
unfolding run_by wraps
run_exact end v h = refl
run_exact (l ⨾ p) v h =
    let (a, b) = or_no (line_wraps l v) _ h in
    run_exact p (line l v) b ∙ ap (exact_run p) (line_exact l v a)
run_exact (reorder to back p) v h = run_exact p (get back v) h
run_exact (apply o s ps p) v h =
    let (a, b) = or_no (wraps s (get ps v)) _ h in
    run_exact p _ b ∙ ap (λ x. exact_run p (put ps x v)) (run_exact s (get ps v) a)

pub undo_exact : (p : Program) (v : List ℤ) → undo_wraps p v ≡ false → undo p v ≡ exact_undo p v
unfolding undo_by undo_wraps
undo_exact end v h = refl
undo_exact (l ⨾ p) v h =
    let (a, b) = or_no (undo_wraps p v) _ h in
    line_exact (back l) (undo p v) b ∙ ap (line_by (λ z. z) (back l)) (undo_exact p v a)
undo_exact (reorder to back p) v h = ap (get to) (undo_exact p v h)
undo_exact (apply o s ps p) v h =
    let (a, b) = or_no (undo_wraps p v) _ h in
    ap (λ x. put ps x (undo p v)) (undo_exact s (get ps (undo p v)) b) ∙ ap (λ u. put ps (exact_undo s (get ps u)) u) (undo_exact p v a)

-- ---- programs one after another, and a use

pub wraps_then : (p q : Program) (v : List ℤ) → wraps (p then q) v ≡ wraps p v || wraps q (run p v)
unfolding wraps run_by ◌then◌
wraps_then end q v = refl
wraps_then (l ⨾ p) q v = ap (λ x. line_wraps l v || x) (wraps_then p q (line l v)) ∙ sym (or_assoc (line_wraps l v) _ _)
wraps_then (reorder to back p) q v = wraps_then p q (get back v)
wraps_then (apply o s ps p) q v =
    let w = put ps (run s (get ps v)) v in
    ap (λ x. wraps s (get ps v) || x) (wraps_then p q w) ∙ sym (or_assoc (wraps s (get ps v)) _ _)

pub undo_wraps_then : (p q : Program) (v : List ℤ) → undo_wraps (p then q) v ≡ undo_wraps q v || undo_wraps p (undo q v)
unfolding undo_wraps undo_by ◌then◌
undo_wraps_then end q v = sym (or-false (undo_wraps q v))
undo_wraps_then (l ⨾ p) q v = rw (undo_wraps_then p q v, undo_then p q v, or_assoc (undo_wraps q v) _ _)
undo_wraps_then (reorder to back p) q v = undo_wraps_then p q v
undo_wraps_then (apply o s ps p) q v = rw (undo_wraps_then p q v, undo_then p q v, or_assoc (undo_wraps q v) _ _)

pub wraps-each : (k : ℕ) (f : ℕ → Program) (v : List ℤ) → wraps (each (suc k) f) v ≡ wraps (each k f) v || wraps (f k) (run (each k f) v)
unfolding each
wraps-each k f v = wraps_then (each k f) (f k) v

pub undo-wraps-each : (k : ℕ) (f : ℕ → Program) (v : List ℤ) → undo_wraps (each (suc k) f) v ≡ undo_wraps (f k) v || undo_wraps (each k f) (undo (f k) v)
unfolding each
undo-wraps-each k f v = undo_wraps_then (each k f) (f k) v

pub wraps-apply : (o : Operator) (s : Program) (ps : List ℕ) (v : List ℤ) → wraps (apply o s ps end) v ≡ wraps s (get ps v)
unfolding wraps
wraps-apply o s ps v = or-false (wraps s (get ps v))

pub undo-wraps-apply : (o : Operator) (s : Program) (ps : List ℕ) (v : List ℤ) → undo_wraps (apply o s ps end) v ≡ undo_wraps s (get ps v)
unfolding undo_wraps undo_by
undo-wraps-apply o s ps v = refl

-- ---- undoing a program is running it turned around

unfoldable pub reverse : Program → Program
reverse end = end
reverse (l ⨾ p) = reverse p then (back l ⨾ end)
reverse (reorder to back p) = reverse p then reorder back to end
reverse (apply o s ps p) = reverse p then apply o (reverse s) ps end

pub run-reverse : (p : Program) (v : List ℤ) → run (reverse p) v ≡ undo p v
unfolding reverse run_by undo_by
run-reverse end v = refl
run-reverse (l ⨾ p) v = rw (run_then (reverse p) (back l ⨾ end) v, run-reverse p v)
run-reverse (reorder to back p) v = rw (run_then (reverse p) (reorder back to end) v, run-reverse p v)
run-reverse (apply o s ps p) v = rw (run_then (reverse p) (apply o (reverse s) ps end) v, run-reverse p v, run-reverse s (get ps (undo p v)))

pub wraps-reverse : (p : Program) (v : List ℤ) → wraps (reverse p) v ≡ undo_wraps p v
unfolding reverse wraps undo_wraps
wraps-reverse end v = refl
wraps-reverse (l ⨾ p) v = rw (wraps_then (reverse p) (back l ⨾ end) v, wraps-reverse p v, run-reverse p v, or-false (line_wraps (back l) (undo p v)))
wraps-reverse (reorder to back p) v = rw (wraps_then (reverse p) (reorder back to end) v, wraps-reverse p v, or-false (undo_wraps p v))
wraps-reverse (apply o s ps p) v =
    rw (wraps_then (reverse p) (apply o (reverse s) ps end) v, wraps-reverse p v, run-reverse p v, wraps-reverse s (get ps (undo p v)), or-false (undo_wraps s (get ps (undo p v))))
