-- A valid program is undone by `undo`, and `undo` by it.
use Prim.Native.Nat.{ℕ, zero, suc, ◌+◌, ◌-◌, ◌<◌}
use mathlib.Core.Path.{◌≡◌, refl, sym, ◌∙◌, ap, subst}
use mathlib.Core.Logic.{◌≢◌}
use mathlib.Core.Bool.{not, ◌&&◌}
use mathlib.Core.List.{List, [], ◌∷◌, map}
use native.Mathlib.Omega.{arith}
use lib.Dec.{T, ltb, eqb, ltb→lt, eqb→eq, eqb_refl}
use lib.ListN.{length, get_or, set, drop, length-set, drop_of_length-le}
use lib.Seq.{drop-cons, get_or-set_same, get_or-set_other, set-get_or, set-set, set_comm}
use lib.IntN.{ℤ, pos, ◌+ℤ◌, ◌-ℤ◌}
use mir.Val.{SFits}
use mir.Syntax.{w32}
use mir.Facts.{sfits_lit, and_yes, T_not}
use Rattle.lifting.specs.Wrap.{wrap}
use Rattle.lifting.proofs.WrapLaws.{wrap-fits, add-sub, sub-add, from_from, neg-neg}
use Rattle.lifting.specs.Program.{Expr, var, ◌⊕◌, ◌⊖◌, 3×, ◌≫◌, Line, ◌+=◌, ◌-=◌, ◌from◌, neg, swap, Program, end, ◌⨾◌, reorder, apply, at, value, line, get, put, run, back, undo, line_by, run_by, undo_by, value_by}
use Rattle.lifting.specs.Row.{Row}
use Rattle.lifting.specs.Valid.{without, valid_line, not_in, places, counts, undoes, valid}

-- ---- tests

pub apart : (i j : ℕ) → T (not (eqb i j)) → i ≢ j
apart i j t e = T_not (eqb i j) (subst (λ (x : ℕ). T (eqb i x)) e (eqb_refl i)) t

-- ---- a row of n numbers of 32 bits

pub row_of : (v : List ℤ) → ((i : ℕ) → i < length v → SFits w32 (at v i)) → Row (length v) v
row_of v h = record { len = refl; fit = fit v h }
  where
    fit : (v : List ℤ) → ((i : ℕ) → i < length v → SFits w32 (at v i)) → (i : ℕ) → SFits w32 (at v i)
    fit [] h i = sfits_lit tt
    fit (x ∷ v) h zero = h zero (omega arith)
    fit (x ∷ v) h (suc i) = fit v (λ j l. h (suc j) (omega arith)) i

fit-set : (v : List ℤ) (i : ℕ) {x : ℤ} → SFits w32 x → ((j : ℕ) → SFits w32 (at v j)) → (j : ℕ) → SFits w32 (at (set v i x) j)
fit-set [] i h f j = f j
fit-set (y ∷ v) zero h f zero = h
fit-set (y ∷ v) zero h f (suc j) = f (suc j)
fit-set (y ∷ v) (suc i) h f zero = f zero
fit-set (y ∷ v) (suc i) h f (suc j) = fit-set v i h (λ k. f (suc k)) j

row-set : {n : ℕ} {v : List ℤ} (i : ℕ) {x : ℤ} → SFits w32 x → Row n v → Row n (set v i x)
row-set {v} i {x} h r = record { len = length-set v i x ∙ r.len; fit = fit-set v i h r.fit }

pub row_line : {n : ℕ} (l : Line) {v : List ℤ} → Row n v → Row n (line l v)
unfolding line_by
row_line (i += e) r = row-set i (wrap-fits _) r
row_line (i -= e) r = row-set i (wrap-fits _) r
row_line (i from e) r = row-set i (wrap-fits _) r
row_line (neg i) r = row-set i (wrap-fits _) r
row_line (swap i j) r = row-set j (r.fit i) (row-set i (r.fit j) r)

pub row_get : (ps : List ℕ) {n : ℕ} {v : List ℤ} → Row n v → Row (length ps) (get ps v)
unfolding get
row_get [] r = record { len = refl; fit = λ i. sfits_lit tt }
row_get (p ∷ ps) r = record { len = ap suc (row_get ps r).len; fit = elim [ zero ↦ r.fit p | suc i ↦ (row_get ps r).fit i ] }

row-tail : {m : ℕ} {xs : List ℤ} → Row m xs → Row (m - 1) (drop 1 xs)
row-tail {xs = []} r = record { len = omega (arith, r.len); fit = r.fit }
row-tail {xs = x ∷ xs} r = record { len = omega (arith, r.len); fit = λ i. r.fit (suc i) }

pub row_put : (ps : List ℕ) {m n : ℕ} {xs v : List ℤ} → Row m xs → Row n v → Row n (put ps xs v)
unfolding put
row_put [] f r = r
row_put (p ∷ ps) f r = row_put ps (row-tail f) (row-set p (f.fit 0) r)

-- ---- a reorder

-- counting from i over m numbers reads a list as it is
get-counts : (i m : ℕ) (ps : List ℕ) (v : List ℤ) → T (counts i m ps) → length v ≡ i + m → get ps v ≡ drop i v
unfolding get
get-counts i zero [] v t h = sym (drop_of_length-le v {i = i} (omega arith))
get-counts i zero (p ∷ ps) v t h = absurd t
get-counts i (suc m) [] v t h = absurd t
get-counts i (suc m) (p ∷ ps) v t h =
    let (a, b) = and_yes (eqb p i) _ t in
    rw (eqb→eq p i a, get-counts (suc i) m ps v b (omega arith), drop-cons v i (pos 0) (omega arith))

counts-length : (i m : ℕ) (ps : List ℕ) → T (counts i m ps) → length ps ≡ m
counts-length i zero [] t = refl
counts-length i zero (p ∷ ps) t = absurd t
counts-length i (suc m) [] t = absurd t
counts-length i (suc m) (p ∷ ps) t = ap suc (counts-length (suc i) m ps (and_yes (eqb p i) _ t).1)

at-get : (qs : List ℕ) (v : List ℤ) (i : ℕ) → i < length qs → at (get qs v) i ≡ at v (get_or qs i 0)
unfolding get
at-get [] v i h = absurd (omega arith)
at-get (q ∷ qs) v zero h = refl
at-get (q ∷ qs) v (suc i) h = at-get qs v i (omega arith)

get-get : (ps qs : List ℕ) (v : List ℤ) → T (places (length qs) ps) → get ps (get qs v) ≡ get (map (λ i. get_or qs i 0) ps) v
unfolding get
get-get [] qs v t = refl
get-get (p ∷ ps) qs v t =
    let (a, b) = and_yes (ltb p (length qs)) _ t in
    rw (at-get qs v p (ltb→lt p (length qs) a), get-get ps qs v (and_yes (not_in p ps) _ b).1)

map-length : (f : ℕ → ℕ) (ps : List ℕ) → length (map f ps) ≡ length ps
map-length f [] = refl
map-length f (p ∷ ps) = ap suc (map-length f ps)

undoes-length : {n : ℕ} (ps qs : List ℕ) → T (undoes n ps qs) → length ps ≡ n
undoes-length {n} ps qs t = sym (map-length _ ps) ∙ counts-length 0 n _ (and_yes (places (length qs) ps) _ t).1

-- the numbers at qs, and of those the ones at ps, are all the numbers in order
get-undoes : {n : ℕ} (ps qs : List ℕ) (v : List ℤ) → T (undoes n ps qs) → length v ≡ n → get ps (get qs v) ≡ v
get-undoes {n} ps qs v t h =
    let (a, b) = and_yes (places (length qs) ps) _ t in
    get-get ps qs v a ∙ get-counts 0 n _ v b (omega (arith, h))

-- ---- programs keep a row a row

pub row-reorder : {n : ℕ} {v : List ℤ} (ps qs : List ℕ) → T (undoes n ps qs) → Row n v → Row n (get ps v)
row-reorder {n} {v} ps qs t r = let g = row_get ps r in record { len = g.len ∙ undoes-length ps qs t; fit = g.fit }

pub row-run : {n : ℕ} {v : List ℤ} (p : Program) → T (valid n p) → Row n v → Row n (run p v)
unfolding run_by
row-run end t r = r
row-run {n} {v} (l ⨾ p) t r = row-run {v = line l v} p (and_yes (valid_line n l) _ t).1 (row_line l r)
row-run {n} {v} (reorder to back p) t r =
    let (a, b) = and_yes (undoes n to back) _ t in
    let (c, d) = and_yes (undoes n back to) _ b in
    row-run {v = get back v} p d (row-reorder back to c r)
row-run {n} {v} (apply o s ps p) t r =
    let (a, b) = and_yes (places n ps) _ t in
    let (c, d) = and_yes (valid (length ps) s) _ b in
    row-run {n = n} {v = put ps (run s (get ps v)) v} p d (row_put ps (row-run {n = length ps} {v = get ps v} s c (row_get ps r)) r)

pub row-undo : {n : ℕ} {v : List ℤ} (p : Program) → T (valid n p) → Row n v → Row n (undo p v)
unfolding undo_by
row-undo end t r = r
row-undo {n} (l ⨾ p) t r = row_line (back l) (row-undo p (and_yes (valid_line n l) _ t).1 r)
row-undo {n} (reorder to back p) t r =
    let (a, b) = and_yes (undoes n to back) _ t in
    let (c, d) = and_yes (undoes n back to) _ b in
    row-reorder to back a (row-undo p d r)
row-undo {n} {v} (apply o s ps p) t r =
    let (a, b) = and_yes (places n ps) _ t in
    let (c, d) = and_yes (valid (length ps) s) _ b in
    let u = row-undo p d r in
    row_put ps (row-undo {n = length ps} {v = get ps (undo p v)} s c (row_get ps u)) u

-- ---- a line

pub value_set : (n : ℕ) (e : Expr) (v : List ℤ) (i : ℕ) (x : ℤ) → T (without n i e) → value e (set v i x) ≡ value e v
unfolding value_by
value_set n (var j) v i x t = get_or-set_other v i j x (pos 0) (λ q. apart i j (and_yes (ltb j n) _ t).1 (sym q))
value_set n (e ⊕ k) v i x t = rw (value_set n e v i x t)
value_set n (e ⊖ f) v i x t = let h = and_yes (without n i e) (without n i f) t in rw (value_set n e v i x h.0, value_set n f v i x h.1)
value_set n (3× e) v i x t = rw (value_set n e v i x t)
value_set n (e ≫ k) v i x t = rw (value_set n e v i x t)

undo-set : (v : List ℤ) (i : ℕ) (x y : ℤ) → y ≡ at v i → set (set v i x) i y ≡ v
undo-set v i x y e = rw (set-set, e, set-get_or)

module _ (F G : ℤ → ℤ → ℤ) (back-F : (a t : ℤ) → SFits w32 a → G (F a t) t ≡ a) where
  update-back : {n : ℕ} {v : List ℤ} (i : ℕ) (e : Expr) → T (ltb i n && without n i e) → Row n v
      → let w = set v i (F (at v i) (value e v)) in set w i (G (at w i) (value e w)) ≡ v
  update-back {n} {v} i e t r =
      let (b, c) = and_yes (ltb i n) _ t in
      let h : i < length v = omega (arith, ltb→lt i n b, r.len) in
      undo-set v i _ _ (rw (get_or-set_same v i _ (pos 0) h, value_set n e v i _ c) (back-F (at v i) (value e v) (r.fit i)))

pub line-back : {n : ℕ} {v : List ℤ} (l : Line) → T (valid_line n l) → Row n v → line (back l) (line l v) ≡ v
unfolding line_by back
line-back (i += e) t r = update-back (λ a x. wrap (a +ℤ x)) (λ a x. wrap (a -ℤ x)) (λ a x f. add-sub x f) i e t r
line-back (i -= e) t r = update-back (λ a x. wrap (a -ℤ x)) (λ a x. wrap (a +ℤ x)) (λ a x f. sub-add x f) i e t r
line-back (i from e) t r = update-back (λ a x. wrap (x -ℤ a)) (λ a x. wrap (x -ℤ a)) (λ a x f. from_from x f) i e t r
line-back {n} {v} (neg i) t r = undo-set v i _ _ (rw (get_or-set_same v i _ (pos 0) (omega (arith, ltb→lt i n t, r.len))) (neg-neg (r.fit i)))
line-back {n} {v} (swap i j) t r =
    let (b, c) = and_yes (ltb i n) _ t in
    let (d, f) = and_yes (ltb j n) _ c in
    let hi : i < length v = omega (arith, ltb→lt i n b, r.len) in
    let hj : j < length (set v i (at v j)) = rw length-set (omega (arith, ltb→lt j n d, r.len)) in
    let ij = apart i j f in
    rw (get_or-set_same (set v i (at v j)) j (at v i) (pos 0) hj, get_or-set_other (set v i (at v j)) j i (at v i) (pos 0) ij, get_or-set_same v i (at v j) (pos 0) hi, set_comm (set v i (at v j)) j i (at v i) (at v i) (λ q. ij (sym q))) (simp (set-set, set-get_or))

back-back : (l : Line) → back (back l) ≡ l
unfolding back
back-back (i += e) = refl
back-back (i -= e) = refl
back-back (i from e) = refl
back-back (neg i) = refl
back-back (swap i j) = refl

valid-back : (n : ℕ) (l : Line) → T (valid_line n l) → T (valid_line n (back l))
unfolding back
valid-back n (i += e) t = t
valid-back n (i -= e) t = t
valid-back n (i from e) t = t
valid-back n (neg i) t = t
valid-back n (swap i j) t = t

pub back-line : {n : ℕ} {v : List ℤ} (l : Line) → T (valid_line n l) → Row n v → line l (line (back l) v) ≡ v
back-line {n} {v} l t r = ap (λ k. line k (line (back l) v)) (sym (back-back l)) ∙ line-back (back l) (valid-back n l t) r

-- ---- a use

pub length-put : (ps : List ℕ) (xs v : List ℤ) → length (put ps xs v) ≡ length v
unfolding put
length-put [] xs v = refl
length-put (p ∷ ps) xs v = length-put ps (drop 1 xs) (set v p (at xs 0)) ∙ length-set v p (at xs 0)

put-set : (ps : List ℕ) (xs v : List ℤ) (p : ℕ) (x : ℤ) → T (not_in p ps) → put ps xs (set v p x) ≡ set (put ps xs v) p x
unfolding put
put-set [] xs v p x t = refl
put-set (q ∷ ps) xs v p x t =
    let (h, k) = and_yes (not (eqb p q)) _ t in
    rw (set_comm v p q x (at xs 0) (apart p q h)) (put-set ps (drop 1 xs) (set v q (at xs 0)) p x k)

restore : (n : ℕ) (ps : List ℕ) (xs v : List ℤ) → T (places n ps) → put ps (get ps v) (put ps xs v) ≡ v
unfolding put get
restore n [] xs v t = refl
restore n (p ∷ ps) xs v t =
    let (b, c) = and_yes (ltb p n) _ t in
    let (d, e) = and_yes (not_in p ps) _ c in
    rw (put-set ps (drop 1 xs) v p (at xs 0) d, set-set, ← put-set ps (drop 1 xs) v p (at v p) d, set-get_or) (restore n ps (drop 1 xs) v e)

pub get-put : {n : ℕ} (ps : List ℕ) (xs v : List ℤ) → T (places n ps) → length xs ≡ length ps → length v ≡ n → get ps (put ps xs v) ≡ xs
unfolding put get
get-put [] [] v t h k = refl
get-put [] (x ∷ xs) v t h k = absurd (omega arith)
get-put (p ∷ ps) [] v t h k = absurd (omega arith)
get-put {n} (p ∷ ps) (x ∷ xs) v t h k =
    let (b, c) = and_yes (ltb p n) _ t in
    let (d, e) = and_yes (not_in p ps) _ c in
    let l : p < length (put ps xs v) = omega (arith, length-put ps xs v, ltb→lt p n b) in
    rw (get-put ps xs (set v p x) e (omega arith) (length-set v p x ∙ k), put-set ps xs v p x d, get_or-set_same (put ps xs v) p x (pos 0) l)

use_back : {n : ℕ} {v : List ℤ} (ps : List ℕ) (F G : List ℤ → List ℤ) → T (places n ps) → Row n v
    → length (F (get ps v)) ≡ length ps → G (F (get ps v)) ≡ get ps v
    → let u = put ps (F (get ps v)) v in put ps (G (get ps u)) u ≡ v
use_back {n} {v} ps F G t r h e = rw (get-put ps (F (get ps v)) v t h r.len, e) (restore n ps (F (get ps v)) v t)

-- ---- a program

pub undo-run : {n : ℕ} {v : List ℤ} (p : Program) → T (valid n p) → Row n v → undo p (run p v) ≡ v
unfolding undo_by run_by
undo-run end t r = refl
undo-run {n} {v} (l ⨾ p) t r =
    let (a, b) = and_yes (valid_line n l) _ t in
    rw (undo-run {v = line l v} p b (row_line l r)) (line-back l a r)
undo-run {n} {v} (reorder to back p) t r =
    let (a, b) = and_yes (undoes n to back) _ t in
    let (c, d) = and_yes (undoes n back to) _ b in
    rw (undo-run {v = get back v} p d (row-reorder back to c r)) (get-undoes to back v a r.len)
undo-run {n} {v} (apply o s ps p) t r =
    let (a, b) = and_yes (places n ps) _ t in
    let (c, d) = and_yes (valid (length ps) s) _ b in
    let g = row_get ps r in
    rw (undo-run {n = n} {v = put ps (run s (get ps v)) v} p d (row_put ps (row-run s c g) r)) (use_back ps (run s) (undo s) a r (row-run s c g).len (undo-run {n = length ps} {v = get ps v} s c g))

pub run-undo : {n : ℕ} {v : List ℤ} (p : Program) → T (valid n p) → Row n v → run p (undo p v) ≡ v
unfolding undo_by run_by
run-undo end t r = refl
run-undo {n} (l ⨾ p) t r =
    let (a, b) = and_yes (valid_line n l) _ t in
    rw (back-line l a (row-undo p b r)) (run-undo p b r)
run-undo {n} {v} (reorder to back p) t r =
    let (a, b) = and_yes (undoes n to back) _ t in
    let (c, d) = and_yes (undoes n back to) _ b in
    let u = row-undo p d r in
    rw (get-undoes back to (undo p v) c u.len) (run-undo p d r)
run-undo {n} {v} (apply o s ps p) t r =
    let (a, b) = and_yes (places n ps) _ t in
    let (c, d) = and_yes (valid (length ps) s) _ b in
    let u = row-undo p d r in
    let g = row_get ps u in
    rw (use_back ps (undo s) (run s) a u (row-undo s c g).len (run-undo {n = length ps} {v = get ps (undo p v)} s c g)) (run-undo p d r)
