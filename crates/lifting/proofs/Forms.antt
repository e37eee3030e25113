-- How far a program's numbers can grow, by affine forms. Each number x of a row is known as a linear form of the program's inputs v, with whole weights
-- over one denominator D, up to a slack: D x differs from the sum of the weighted inputs by at most the slack. Lines act on forms as they act on
-- numbers; a shift divides the weights, which must come out even, and adds to the slack. At each reduction a test asks that the form,
-- for inputs of magnitude at most B, stays below 2^31. One law: if the tests of a program pass then nothing wraps, and its numbers keep to their forms.
use Prim.Native.Nat.{ℕ, zero, suc, ◌+◌, ◌-◌, ◌*◌, ◌/◌, ◌^◌, ◌≤◌, ◌<◌}
use mathlib.Core.Path.{◌≡◌, refl, sym, ◌∙◌, ap, subst}
use mathlib.Core.Bool.{Bool, true, false, ◌&&◌}
use mathlib.Core.List.{List, [], ◌∷◌}
use native.Mathlib.Omega.{arith}
use native.Mathlib.Nat.{mod-lt, div-add-mod, mul_comm, add-mul, mul-le-mul_left, mul-le-mul_right, lt_of_mul-lt-mul_left, le_of_mul-le-mul_left, mul-sub, mul_assoc, mul_left_comm, le-div_iff_mul-le}
use lib.Dec.{T, ltb, leb, ltb→lt, leb→le, le→leb}
use lib.ListN.{length, get_or, set, drop}
use lib.IntN.{ℤ, pos, negsuc, neg_ℤ, nat_abs, zero-*ℤ, *ℤ-zero, *ℤ_comm, +ℤ_idl, +ℤ_idr, +ℤ_invr, neg_ℤ-+ℤ, ◌+ℤ◌, ◌*ℤ◌}
use lib.Signed.{shr_z}
use mir.Val.{SFits}
use mir.Syntax.{w32}
use mir.Facts.{and_yes, yes_and}
use Rattle.lifting.specs.Wrap.{wrap}
use Rattle.lifting.specs.Program.{Expr, var, ◌⊕◌, ◌⊖◌, 3×, ◌≫◌, Line, ◌+=◌, ◌-=◌, ◌from◌, neg, swap, Program, end, ◌⨾◌, reorder, apply, at, value, line, get, put, run, undo, value_by, line_by, run_by}
use Rattle.lifting.specs.Wraps.{same, changes, value_wraps, line_wraps, wraps, undo_wraps, Within, Reaches, Grows}
use Rattle.lifting.proofs.Tests.{no_or}
use Rattle.lifting.proofs.WrapLaws.{wrap_id}
use Rattle.lifting.proofs.NoWrap.{same_eq, fits-calm, reverse, run-reverse, wraps-reverse}
use Rattle.lifting.proofs.IntLaws.{Near, near_add, near-neg, near-size, near_trans, near-scale, near_unscale, near-shift, abs-add, abs-mul, middle, *ℤ-distrib, *ℤ-distrib-left, *ℤ-negℤ, negℤ-*ℤ, *ℤ-assoc}

-- ---- weights

-- the sum of the inputs, weighted
abbrev pub dot : List ℤ → List ℤ → ℤ
dot [] v = pos 0
dot (c ∷ cs) [] = pos 0
dot (c ∷ cs) (x ∷ v) = c *ℤ x +ℤ dot cs v

abbrev pub plus_w : List ℤ → List ℤ → List ℤ
plus_w [] ds = ds
plus_w (c ∷ cs) [] = c ∷ cs
plus_w (c ∷ cs) (d ∷ ds) = (c +ℤ d) ∷ plus_w cs ds

abbrev pub neg_w : List ℤ → List ℤ
neg_w [] = []
neg_w (c ∷ cs) = neg_ℤ c ∷ neg_w cs

abbrev pub scale_w : ℕ → List ℤ → List ℤ
scale_w m [] = []
scale_w m (c ∷ cs) = (pos m *ℤ c) ∷ scale_w m cs

abbrev pub divide_w : ℕ → List ℤ → List ℤ
divide_w m [] = []
divide_w m (c ∷ cs) = shr_z c m ∷ divide_w m cs

-- every weight is a multiple of m
abbrev pub even : ℕ → List ℤ → Bool
even m [] = true
even m (c ∷ cs) = same (pos m *ℤ shr_z c m) c && even m cs

abbrev pub size : List ℤ → ℕ
size [] = 0
size (c ∷ cs) = nat_abs c + size cs

dot_plus : (cs ds v : List ℤ) → dot (plus_w cs ds) v ≡ dot cs v +ℤ dot ds v
dot_plus [] ds v = sym (+ℤ_idl (dot ds v))
dot_plus (c ∷ cs) [] v = sym (+ℤ_idr (dot (c ∷ cs) v))
dot_plus (c ∷ cs) (d ∷ ds) [] = refl
dot_plus (c ∷ cs) (d ∷ ds) (x ∷ v) = rw (*ℤ-distrib c d x, dot_plus cs ds v) (middle (c *ℤ x) (d *ℤ x) (dot cs v) (dot ds v))

dot_neg : (cs v : List ℤ) → dot (neg_w cs) v ≡ neg_ℤ (dot cs v)
dot_neg [] v = refl
dot_neg (c ∷ cs) [] = refl
dot_neg (c ∷ cs) (x ∷ v) = rw (negℤ-*ℤ c x, dot_neg cs v, neg_ℤ-+ℤ (c *ℤ x) (dot cs v))

dot_scale : (m : ℕ) (cs v : List ℤ) → dot (scale_w m cs) v ≡ pos m *ℤ dot cs v
dot_scale m [] v = sym (*ℤ-zero (pos m))
dot_scale m (c ∷ cs) [] = sym (*ℤ-zero (pos m))
dot_scale m (c ∷ cs) (x ∷ v) = rw (*ℤ-assoc (pos m) c x, dot_scale m cs v) (sym (*ℤ-distrib-left (pos m) (c *ℤ x) (dot cs v)))

scale-divide : (m : ℕ) (cs : List ℤ) → T (even m cs) → scale_w m (divide_w m cs) ≡ cs
scale-divide m [] t = refl
scale-divide m (c ∷ cs) t = let (a, b) = and_yes (same (pos m *ℤ shr_z c m) c) _ t in rw (same_eq (pos m *ℤ shr_z c m) c a, scale-divide m cs b)

dot_size : {B : ℕ} (cs v : List ℤ) → Within B v → nat_abs (dot cs v) ≤ size cs * B
dot_size [] v h = omega arith
dot_size (c ∷ cs) [] h = omega arith
dot_size {B} (c ∷ cs) (x ∷ v) h =
    let k = mul-le-mul_left (nat_abs c) (h.within 0) in
    let r = dot_size cs v (record { within = λ i. h.within (suc i) }) in
    omega (arith, abs-add (c *ℤ x) (dot cs v), abs-mul c x, add-mul (nat_abs c) (size cs) B, k, r)

-- ---- forms

pub record Form : Type 0 where
  pub weights : List ℤ
  pub slack : ℕ

abbrev pub none : Form
none = record { weights = []; slack = 0 }

abbrev pub plus : Form → Form → Form
plus f g = record { weights = plus_w f.weights g.weights; slack = f.slack + g.slack }

abbrev pub opposite : Form → Form
opposite f = record { weights = neg_w f.weights; slack = f.slack }

abbrev pub times : ℕ → Form → Form
times m f = record { weights = scale_w m f.weights; slack = m * f.slack }

abbrev pub shifted : ℕ → ℕ → Form → Form
shifted D m f = record { weights = divide_w m f.weights; slack = (D * (m - 1) + f.slack + (m - 1)) / m }

abbrev pub plus_constant : ℕ → ℤ → Form → Form
plus_constant D k f = record { weights = f.weights; slack = f.slack + D * nat_abs k }

abbrev pub form_value : ℕ → Expr → List Form → Form
form_value D (var i) fs = get_or fs i none
form_value D (e ⊕ k) fs = plus_constant D k (form_value D e fs)
form_value D (e ⊖ f) fs = plus (form_value D e fs) (opposite (form_value D f fs))
form_value D (3× e) fs = times 3 (form_value D e fs)
form_value D (e ≫ k) fs = shifted D (2 ^ k) (form_value D e fs)

-- what the line reduces, where it reduces, and where it puts it
abbrev pub form_line : ℕ → Line → List Form → List Form
form_line D (i += e) fs = set fs i (plus (get_or fs i none) (form_value D e fs))
form_line D (i -= e) fs = set fs i (plus (get_or fs i none) (opposite (form_value D e fs)))
form_line D (i from e) fs = set fs i (plus (form_value D e fs) (opposite (get_or fs i none)))
form_line D (neg i) fs = set fs i (opposite (get_or fs i none))
form_line D (swap i j) fs = set (set fs i (get_or fs j none)) j (get_or fs i none)

abbrev pub get_f : List ℕ → List Form → List Form
get_f [] fs = []
get_f (p ∷ ps) fs = get_or fs p none ∷ get_f ps fs

abbrev pub put_f : List ℕ → List Form → List Form → List Form
put_f [] gs fs = fs
put_f (p ∷ ps) gs fs = put_f ps (drop 1 gs) (set fs p (get_or gs 0 none))

abbrev pub form_run : ℕ → Program → List Form → List Form
form_run D end fs = fs
form_run D (l ⨾ p) fs = form_run D p (form_line D l fs)
form_run D (reorder to back p) fs = form_run D p (get_f back fs)
form_run D (apply o s ps p) fs = form_run D p (put_f ps (form_run D s (get_f ps fs)) fs)

-- ---- the tests

-- at most this much, over the denominator
abbrev pub most : ℕ → Form → ℕ
most B f = size f.weights * B + f.slack

abbrev pub small : ℕ → ℕ → Form → Bool
small D B f = ltb (most B f) (D * 2147483648)

abbrev pub test_value : ℕ → ℕ → Expr → List Form → Bool
test_value D B (var i) fs = true
test_value D B (e ⊕ k) fs = test_value D B e fs && small D B (plus_constant D k (form_value D e fs))
test_value D B (e ⊖ f) fs = test_value D B e fs && (test_value D B f fs && small D B (plus (form_value D e fs) (opposite (form_value D f fs))))
test_value D B (3× e) fs = test_value D B e fs && small D B (times 3 (form_value D e fs))
test_value D B (e ≫ k) fs = test_value D B e fs && (ltb 0 (2 ^ k) && even (2 ^ k) (form_value D e fs).weights)

abbrev pub test_line : ℕ → ℕ → Line → List Form → Bool
test_line D B (i += e) fs = test_value D B e fs && small D B (plus (get_or fs i none) (form_value D e fs))
test_line D B (i -= e) fs = test_value D B e fs && small D B (plus (get_or fs i none) (opposite (form_value D e fs)))
test_line D B (i from e) fs = test_value D B e fs && small D B (plus (form_value D e fs) (opposite (get_or fs i none)))
test_line D B (neg i) fs = small D B (opposite (get_or fs i none))
test_line D B (swap i j) fs = true

abbrev pub test_run : ℕ → ℕ → Program → List Form → Bool
test_run D B end fs = true
test_run D B (l ⨾ p) fs = test_line D B l fs && test_run D B p (form_line D l fs)
test_run D B (reorder to back p) fs = test_run D B p (get_f back fs)
test_run D B (apply o s ps p) fs = test_run D B s (get_f ps fs) && test_run D B p (put_f ps (form_run D s (get_f ps fs)) fs)

-- ---- the tests are sound

-- x keeps to the form f of the inputs v₀
pub record Keeps (D : ℕ) (v₀ : List ℤ) (f : Form) (x : ℤ) : Type 0 where
  pub keeps : Near (pos D *ℤ x) (dot f.weights v₀) f.slack

pub data Rows (D : ℕ) (v₀ : List ℤ) : List Form → List ℤ → Type 0 where
  empty : Rows D v₀ [] []
  more : {f : Form} {x : ℤ} {fs : List Form} {v : List ℤ} → Keeps D v₀ f x → Rows D v₀ fs v → Rows D v₀ (f ∷ fs) (x ∷ v)

past : (D m : ℕ) (x : ℤ) → pos D *ℤ (pos m *ℤ x) ≡ pos m *ℤ (pos D *ℤ x)
past D m x = sym (*ℤ-assoc (pos D) (pos m) x) ∙ ap (λ y. y *ℤ x) (*ℤ_comm (pos D) (pos m)) ∙ *ℤ-assoc (pos m) (pos D) x

module _ {D : ℕ} {v₀ : List ℤ} where
  keeps_none : Keeps D v₀ none (pos 0)
  keeps_none = record { keeps = record { near = omega arith } }

  keeps_plus : {f g : Form} {x y : ℤ} → Keeps D v₀ f x → Keeps D v₀ g y → Keeps D v₀ (plus f g) (x +ℤ y)
  keeps_plus {f} {g} {x} {y} h k = record { keeps = rw (*ℤ-distrib-left (pos D) x y, dot_plus f.weights g.weights v₀) (near_add h.keeps k.keeps) }

  keeps_opposite : {f : Form} {x : ℤ} → Keeps D v₀ f x → Keeps D v₀ (opposite f) (neg_ℤ x)
  keeps_opposite {f} {x} h = record { keeps = rw (*ℤ-negℤ (pos D) x, dot_neg f.weights v₀) (near-neg h.keeps) }

  keeps_times : (m : ℕ) {f : Form} {x : ℤ} → Keeps D v₀ f x → Keeps D v₀ (times m f) (pos m *ℤ x)
  keeps_times m {f} {x} h = record { keeps = rw (past D m x, dot_scale m f.weights v₀) (near-scale m h.keeps) }

  keeps_constant : (k : ℤ) {f : Form} {x : ℤ} → Keeps D v₀ f x → Keeps D v₀ (plus_constant D k f) (x +ℤ k)
  keeps_constant k {f} {x} h = record { keeps = rw (*ℤ-distrib-left (pos D) x k) (subst (λ y. Near (pos D *ℤ x +ℤ pos D *ℤ k) y (f.slack + D * nat_abs k)) (+ℤ_idr (dot f.weights v₀)) (near_add h.keeps itself)) }
    where
      itself : Near (pos D *ℤ k) (pos 0) (D * nat_abs k)
      itself = record { near = rw (+ℤ_idr (pos D *ℤ k), abs-mul (pos D) k) (omega arith) }

  keeps_shifted : (m : ℕ) {f : Form} {x : ℤ} → 0 < m → T (even m f.weights) → Keeps D v₀ f x → Keeps D v₀ (shifted D m f) (shr_z x m)
  keeps_shifted m {f} {x} l t h =
      let n = D * (m - 1) + f.slack in
      let q = (n + (m - 1)) / m in
      let a = near_trans (near-scale D (near-shift m x l)) h.keeps in
      let b = rw (past D m (shr_z x m), ← scale-divide m f.weights t, dot_scale m (divide_w m f.weights) v₀) at a in
      record { keeps = near_unscale m l (omega (arith, div-add-mod (n + (m - 1)) m, mod-lt (n + (m - 1)) l)) b }

  -- ---- rows

  rows_at : {fs : List Form} {v : List ℤ} → Rows D v₀ fs v → (i : ℕ) → Keeps D v₀ (get_or fs i none) (at v i)
  rows_at empty i = keeps_none
  rows_at (more k r) zero = k
  rows_at (more k r) (suc i) = rows_at r i

  rows-set : {fs : List Form} {v : List ℤ} (i : ℕ) {f : Form} {x : ℤ} → Keeps D v₀ f x → Rows D v₀ fs v → Rows D v₀ (set fs i f) (set v i x)
  rows-set i h empty = empty
  rows-set zero h (more k r) = more h r
  rows-set (suc i) h (more k r) = more k (rows-set i h r)

  rows_get : (ps : List ℕ) {fs : List Form} {v : List ℤ} → Rows D v₀ fs v → Rows D v₀ (get_f ps fs) (get ps v)
  unfolding get
  rows_get [] r = empty
  rows_get (p ∷ ps) r = more (rows_at r p) (rows_get ps r)

  rows-tail : {gs : List Form} {xs : List ℤ} → Rows D v₀ gs xs → Rows D v₀ (drop 1 gs) (drop 1 xs)
  rows-tail empty = empty
  rows-tail (more k r) = r

  rows-put : (ps : List ℕ) {gs fs : List Form} {xs v : List ℤ} → Rows D v₀ gs xs → Rows D v₀ fs v → Rows D v₀ (put_f ps gs fs) (put ps xs v)
  unfolding put
  rows-put [] s r = r
  rows-put (p ∷ ps) s r = rows-put ps (rows-tail s) (rows-set p (rows_at s 0) r)

-- ---- the law

module _ {D B : ℕ} {v₀ : List ℤ} (positive : 0 < D) (low : Within B v₀) where
  pub keeps_size : {f : Form} {x : ℤ} → Keeps D v₀ f x → D * nat_abs x ≤ most B f
  keeps_size {f} {x} h = omega (arith, near-size h.keeps, abs-mul (pos D) x, dot_size f.weights v₀ low)

  fits-of : (x : ℤ) → nat_abs x < 2147483648 → SFits w32 x
  fits-of (pos n) h = record { sfits = omega arith }
  fits-of (negsuc n) h = record { sfits = omega arith }

  fits-small : {f : Form} {x : ℤ} → T (small D B f) → Keeps D v₀ f x → SFits w32 x
  fits-small {f} {x} t h =
      let k = ltb→lt (most B f) (D * 2147483648) t in
      fits-of x (lt_of_mul-lt-mul_left D (omega (arith, keeps_size h, k)))

  -- a reduction of a number whose form passes the test
  reduced : {f : Form} {x : ℤ} → T (small D B f) → Keeps D v₀ f x → Keeps D v₀ f (wrap x)
  reduced {f} {x} t h = rw (wrap_id (fits-small t h)) h

  calm-small : {f : Form} {x : ℤ} → T (small D B f) → Keeps D v₀ f x → changes x ≡ false
  calm-small t h = fits-calm (fits-small t h)

  value_keeps : (e : Expr) {fs : List Form} {v : List ℤ} → T (test_value D B e fs) → Rows D v₀ fs v → Keeps D v₀ (form_value D e fs) (value e v)
  unfolding value_by
  value_keeps (var i) t r = rows_at r i
  value_keeps (e ⊕ k) {fs} t r =
      let (a, b) = and_yes (test_value D B e fs) _ t in
      reduced b (keeps_constant k (value_keeps e a r))
  value_keeps (e ⊖ f) {fs} t r =
      let (a, b) = and_yes (test_value D B e fs) _ t in
      let (c, d) = and_yes (test_value D B f fs) _ b in
      reduced d (keeps_plus (value_keeps e a r) (keeps_opposite (value_keeps f c r)))
  value_keeps (3× e) {fs} t r =
      let (a, b) = and_yes (test_value D B e fs) _ t in
      reduced b (keeps_times 3 (value_keeps e a r))
  value_keeps (e ≫ k) {fs} t r =
      let (a, b) = and_yes (test_value D B e fs) _ t in
      let (c, d) = and_yes (ltb 0 (2 ^ k)) _ b in
      keeps_shifted (2 ^ k) (ltb→lt 0 (2 ^ k) c) d (value_keeps e a r)

  value-calm : (e : Expr) {fs : List Form} {v : List ℤ} → T (test_value D B e fs) → Rows D v₀ fs v → value_wraps e v ≡ false
  unfolding value_wraps
  value-calm (var i) t r = refl
  value-calm (e ⊕ k) {fs} t r =
      let (a, b) = and_yes (test_value D B e fs) _ t in
      no_or (value-calm e a r) (calm-small b (keeps_constant k (value_keeps e a r)))
  value-calm (e ⊖ f) {fs} t r =
      let (a, b) = and_yes (test_value D B e fs) _ t in
      let (c, d) = and_yes (test_value D B f fs) _ b in
      no_or (no_or (value-calm e a r) (value-calm f c r)) (calm-small d (keeps_plus (value_keeps e a r) (keeps_opposite (value_keeps f c r))))
  value-calm (3× e) {fs} t r =
      let (a, b) = and_yes (test_value D B e fs) _ t in
      no_or (value-calm e a r) (calm-small b (keeps_times 3 (value_keeps e a r)))
  value-calm (e ≫ k) {fs} t r = value-calm e (and_yes (test_value D B e fs) _ t).0 r

  line_keeps : (l : Line) {fs : List Form} {v : List ℤ} → T (test_line D B l fs) → Rows D v₀ fs v → Rows D v₀ (form_line D l fs) (line l v)
  unfolding line_by
  line_keeps (i += e) {fs} t r =
      let (a, b) = and_yes (test_value D B e fs) _ t in
      rows-set i (reduced b (keeps_plus (rows_at r i) (value_keeps e a r))) r
  line_keeps (i -= e) {fs} t r =
      let (a, b) = and_yes (test_value D B e fs) _ t in
      rows-set i (reduced b (keeps_plus (rows_at r i) (keeps_opposite (value_keeps e a r)))) r
  line_keeps (i from e) {fs} t r =
      let (a, b) = and_yes (test_value D B e fs) _ t in
      rows-set i (reduced b (keeps_plus (value_keeps e a r) (keeps_opposite (rows_at r i)))) r
  line_keeps (neg i) t r = rows-set i (reduced t (keeps_opposite (rows_at r i))) r
  line_keeps (swap i j) t r = rows-set j (rows_at r i) (rows-set i (rows_at r j) r)

  line-calm : (l : Line) {fs : List Form} {v : List ℤ} → T (test_line D B l fs) → Rows D v₀ fs v → line_wraps l v ≡ false
  unfolding line_wraps
  line-calm (i += e) {fs} t r =
      let (a, b) = and_yes (test_value D B e fs) _ t in
      no_or (value-calm e a r) (calm-small b (keeps_plus (rows_at r i) (value_keeps e a r)))
  line-calm (i -= e) {fs} t r =
      let (a, b) = and_yes (test_value D B e fs) _ t in
      no_or (value-calm e a r) (calm-small b (keeps_plus (rows_at r i) (keeps_opposite (value_keeps e a r))))
  line-calm (i from e) {fs} t r =
      let (a, b) = and_yes (test_value D B e fs) _ t in
      no_or (value-calm e a r) (calm-small b (keeps_plus (value_keeps e a r) (keeps_opposite (rows_at r i))))
  line-calm (neg i) t r = calm-small t (keeps_opposite (rows_at r i))
  line-calm (swap i j) t r = refl

  pub run_keeps : (p : Program) {fs : List Form} {v : List ℤ} → T (test_run D B p fs) → Rows D v₀ fs v → Rows D v₀ (form_run D p fs) (run p v)
  unfolding run_by
  run_keeps end t r = r
  run_keeps (l ⨾ p) {fs} t r = let (a, b) = and_yes (test_line D B l fs) _ t in run_keeps p b (line_keeps l a r)
  run_keeps (reorder to back p) t r = run_keeps p t (rows_get back r)
  run_keeps (apply o s ps p) {fs} t r =
      let (a, b) = and_yes (test_run D B s (get_f ps fs)) _ t in
      run_keeps p b (rows-put ps (run_keeps s a (rows_get ps r)) r)

  pub run-calm : (p : Program) {fs : List Form} {v : List ℤ} → T (test_run D B p fs) → Rows D v₀ fs v → wraps p v ≡ false
  unfolding wraps
  run-calm end t r = refl
  run-calm (l ⨾ p) {fs} t r = let (a, b) = and_yes (test_line D B l fs) _ t in no_or (line-calm l a r) (run-calm p b (line_keeps l a r))
  run-calm (reorder to back p) t r = run-calm p t (rows_get back r)
  run-calm (apply o s ps p) {fs} t r =
      let (a, b) = and_yes (test_run D B s (get_f ps fs)) _ t in
      no_or (run-calm s a (rows_get ps r)) (run-calm p b (rows-put ps (run_keeps s a (rows_get ps r)) r))

-- ---- a program's growth, as one test

-- the inputs' own forms
abbrev pub behind : List Form → List Form
behind [] = []
behind (f ∷ fs) = record { weights = pos 0 ∷ f.weights; slack = f.slack } ∷ behind fs

abbrev pub inputs : ℕ → ℕ → List Form
inputs D zero = []
inputs D (suc n) = record { weights = pos D ∷ []; slack = 0 } ∷ behind (inputs D n)

rows_behind : {D : ℕ} {v₀ : List ℤ} (y : ℤ) {fs : List Form} {v : List ℤ} → Rows D v₀ fs v → Rows D (y ∷ v₀) (behind fs) v
rows_behind y empty = empty
rows_behind {D} {v₀} y (more {f} {x} k r) =
    more (record { keeps = subst (λ z. Near (pos D *ℤ x) z f.slack) (sym (ap (λ z. z +ℤ dot f.weights v₀) (zero-*ℤ y) ∙ +ℤ_idl (dot f.weights v₀))) k.keeps }) (rows_behind y r)

keeps_own : (D : ℕ) (x : ℤ) (v : List ℤ) → Keeps D (x ∷ v) (record { weights = pos D ∷ []; slack = 0 }) x
keeps_own D x v = record { keeps = record { near = rw (+ℤ_idr (pos D *ℤ x), +ℤ_invr (pos D *ℤ x)) (omega arith) } }

rows_inputs : (D : ℕ) (v : List ℤ) → Rows D v (inputs D (length v)) v
rows_inputs D [] = empty
rows_inputs D (x ∷ v) = more (keeps_own D x v) (rows_behind x (rows_inputs D v))

-- a test of all forms of a row, which the form of no number passes too
abbrev every : (Form → Bool) → List Form → Bool
every test [] = true
every test (f ∷ fs) = test f && every test fs

every_at : (test : Form → Bool) (fs : List Form) (i : ℕ) → T (test none) → T (every test fs) → T (test (get_or fs i none))
every_at test [] i n t = n
every_at test (f ∷ fs) zero n t = (and_yes (test f) _ t).0
every_at test (f ∷ fs) (suc i) n t = every_at test fs i n (and_yes (test f) _ t).1

pub within_le : {B C : ℕ} {v : List ℤ} → B ≤ C → Within B v → Within C v
within_le l h = record { within = λ i. omega (arith, h.within i) }

-- nothing wraps up to the limit, and the forms of the outputs pass the test
abbrev tests : ℕ → ℕ → ℕ → (Form → Bool) → Program → Bool
tests D n limit test p = ltb 0 D && (test_run D limit p (inputs D n) && every test (form_run D p (inputs D n)))

module _ (D n limit : ℕ) (test : Form → Bool) (p : Program) (t : T (tests D n limit test p)) where
  positive : 0 < D
  positive = ltb→lt 0 D (and_yes (ltb 0 D) _ t).0

  passed : T (test_run D limit p (inputs D n)) × T (every test (form_run D p (inputs D n)))
  passed = and_yes (test_run D limit p (inputs D n)) _ (and_yes (ltb 0 D) _ t).1

  start : (v : List ℤ) → length v ≡ n → Rows D v (inputs D n) v
  start v e = subst (λ (m : ℕ). Rows D v (inputs D m) v) e (rows_inputs D v)

  tests_reach : (B C : ℕ) → B ≤ limit → T (test none) → ((f : Form) (x : ℕ) → T (test f) → D * x ≤ most B f → x ≤ C) → Reaches n B C (wraps p) (run p)
  tests_reach B C l z c =
      record {
        calm = λ {v} e h. run-calm positive (within_le l h) p passed.0 (start v e);
        most = λ {v} e h. record { within = λ i. c _ _ (every_at test (form_run D p (inputs D n)) i z passed.1) (keeps_size positive h (rows_at (run_keeps positive (within_le l h) p passed.0 (start v e)) i)) };
      }

-- ---- one test for all bounds up to a limit: no form is above num / den times the largest input, and add

abbrev pub gains : ℕ → ℕ → ℕ → ℕ → Form → Bool
gains D num den add f = leb (size f.weights * den) (num * D) && leb f.slack (add * D)

abbrev pub growth : ℕ → ℕ → ℕ → ℕ → ℕ → ℕ → Program → Bool
growth D n limit num den add p = ltb 0 den && tests D n limit (gains D num den add) p

at_most : (D B S e num den add X : ℕ) → 0 < D → 0 < den → D * X ≤ S * B + e → S * den ≤ num * D → e ≤ add * D → X ≤ num * B / den + add
at_most D B S e num den add X p q h k l =
    let Y = X - add in
    let f1 : D * Y ≤ S * B = omega (arith, mul-sub D X add, mul_comm add D) in
    let f2 = mul-le-mul_left den f1 in
    let f3 = mul-le-mul_right B k in
    let e1 : den * (D * Y) ≡ D * (Y * den) = mul_left_comm den D Y ∙ ap (λ x. D * x) (mul_comm den Y) in
    let e2 : den * (S * B) ≡ S * den * B = sym (mul_assoc den S B) ∙ ap (λ x. x * B) (mul_comm den S) in
    let e3 : num * D * B ≡ D * (num * B) = ap (λ x. x * B) (mul_comm num D) ∙ mul_assoc D num B in
    let f4 : D * (Y * den) ≤ D * (num * B) = omega (arith, f2, f3, e1, e2, e3) in
    omega (arith, (le-div_iff_mul-le {x = Y} {y = num * B} q).1 (le_of_mul-le-mul_left f4 p))

pub grows : (D n limit num den add : ℕ) (p : Program) → T (growth D n limit num den add p) → Grows n limit num den add (wraps p) (run p)
grows D n limit num den add p t B l =
    let (a, b) = and_yes (ltb 0 den) _ t in
    let none-gains = yes_and (leb (0 * den) (num * D)) _ (le→leb (0 * den) (num * D) (omega arith)) (le→leb 0 (add * D) (omega arith)) in
    tests_reach D n limit (gains D num den add) p b B (num * B / den + add) l none-gains
    (λ f x u h.
    let (c, d) = and_yes (leb (size f.weights * den) (num * D)) _ u in
    at_most D B (size f.weights) f.slack num den add x (positive D n limit _ p b) (ltb→lt 0 den a) h (leb→le _ _ c) (leb→le _ _ d))

-- ---- undone

turned : {n B C : ℕ} (p : Program) → Reaches n B C (wraps (reverse p)) (run (reverse p)) → Reaches n B C (undo_wraps p) (undo p)
turned {n} {B} {C} p g = record { calm = λ {v} e h. sym (wraps-reverse p v) ∙ g.calm e h; most = λ {v} e h. subst (Within C) (run-reverse p v) (g.most e h) }

pub grows_undone : (D n limit num den add : ℕ) (p : Program) → T (growth D n limit num den add (reverse p)) → Grows n limit num den add (undo_wraps p) (undo p)
grows_undone D n limit num den add p t B l = turned p (grows D n limit num den add (reverse p) t B l)
