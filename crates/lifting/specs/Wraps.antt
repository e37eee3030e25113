-- Whether a reduction changed a number while a program ran or was undone; the same steps over whole integers; and how large numbers are.
use Rattle.std.specs.Prelude.{ℕ, ◌+◌, ◌*◌, ◌/◌, ◌≤◌, ◌≡◌, Bool, false, not, ◌||◌, List, eqb, length, ℤ, pos, negsuc, neg_ℤ, nat_abs, ◌+ℤ◌, ◌-ℤ◌, ◌*ℤ◌}
use Rattle.lifting.specs.Wrap.{wrap}
use Rattle.lifting.specs.Program.{Expr, var, ◌⊕◌, ◌⊖◌, 3×, ◌≫◌, Line, ◌+=◌, ◌-=◌, ◌from◌, neg, swap, Program, end, ◌⨾◌, reorder, apply, at, value, line, get, put, run, back, undo, run_by, undo_by}

abbrev pub same : ℤ → ℤ → Bool
same (pos a) (pos b) = eqb a b
same (pos a) (negsuc b) = false
same (negsuc a) (pos b) = false
same (negsuc a) (negsuc b) = eqb a b

-- the reduction of z is another number
unfoldable pub changes : ℤ → Bool
changes z = not (same (wrap z) z)

unfoldable pub value_wraps : Expr → List ℤ → Bool
value_wraps (var i) v = false
value_wraps (e ⊕ k) v = value_wraps e v || changes (value e v +ℤ k)
value_wraps (e ⊖ f) v = value_wraps e v || value_wraps f v || changes (value e v -ℤ value f v)
value_wraps (3× e) v = value_wraps e v || changes (pos 3 *ℤ value e v)
value_wraps (e ≫ k) v = value_wraps e v

unfoldable pub line_wraps : Line → List ℤ → Bool
line_wraps (i += e) v = value_wraps e v || changes (at v i +ℤ value e v)
line_wraps (i -= e) v = value_wraps e v || changes (at v i -ℤ value e v)
line_wraps (i from e) v = value_wraps e v || changes (value e v -ℤ at v i)
line_wraps (neg i) v = changes (neg_ℤ (at v i))
line_wraps (swap i j) v = false

-- later steps are judged on the numbers that the earlier ones, reduced, left
unfoldable pub wraps : Program → List ℤ → Bool
wraps end v = false
wraps (l ⨾ p) v = line_wraps l v || wraps p (line l v)
wraps (reorder to back p) v = wraps p (get back v)
wraps (apply o s ps p) v = wraps s (get ps v) || wraps p (put ps (run s (get ps v)) v)

unfoldable pub undo_wraps : Program → List ℤ → Bool
undo_wraps end v = false
undo_wraps (l ⨾ p) v = undo_wraps p v || line_wraps (back l) (undo p v)
undo_wraps (reorder to back p) v = undo_wraps p v
undo_wraps (apply o s ps p) v = undo_wraps p v || undo_wraps s (get ps (undo p v))

-- the same steps over whole integers, with no reduction
abbrev pub exact_run : Program → List ℤ → List ℤ
exact_run = run_by (λ z. z)

abbrev pub exact_undo : Program → List ℤ → List ℤ
exact_undo = undo_by (λ z. z)

-- ---- how large the numbers are

-- no number of the row is above B in magnitude
pub record Within (B : ℕ) (v : List ℤ) : Type 0 where
  pub within : (i : ℕ) → nat_abs (at v i) ≤ B

-- of a program that is run or undone on n numbers: where none of these is above B in magnitude, nothing wraps and none comes out above C
pub record Reaches (n B C : ℕ) (wrapped : List ℤ → Bool) (after : List ℤ → List ℤ) : Type 0 where
  pub calm : {v : List ℤ} → length v ≡ n → Within B v → wrapped v ≡ false
  pub most : {v : List ℤ} → length v ≡ n → Within B v → Within C (after v)

-- for every B up to the limit, with num * B / den + add for C
abbrev pub Grows : ℕ → ℕ → ℕ → ℕ → ℕ → (List ℤ → Bool) → (List ℤ → List ℤ) → Type 0
Grows n limit num den add wrapped after = (B : ℕ) → B ≤ limit → Reaches n B (num * B / den + add) wrapped after
