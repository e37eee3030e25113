-- Which programs on n numbers can be undone: a test that computes.
use Rattle.std.specs.Prelude.{ℕ, zero, suc, Bool, true, false, not, ◌&&◌, List, [], ◌∷◌, map, eqb, ltb, length, get_or}
use Rattle.lifting.specs.Program.{Expr, var, ◌⊕◌, ◌⊖◌, 3×, ◌≫◌, Line, ◌+=◌, ◌-=◌, ◌from◌, neg, swap, Program, end, ◌⨾◌, reorder, apply}

-- e's variables are below n, and none of them is i
abbrev pub without : ℕ → ℕ → Expr → Bool
without n i (var j) = ltb j n && not (eqb i j)
without n i (e ⊕ k) = without n i e
without n i (e ⊖ f) = without n i e && without n i f
without n i (3× e) = without n i e
without n i (e ≫ k) = without n i e

abbrev update : ℕ → ℕ → Expr → Bool
update n i e = ltb i n && without n i e

abbrev pub valid_line : ℕ → Line → Bool
valid_line n (i += e) = update n i e
valid_line n (i -= e) = update n i e
valid_line n (i from e) = update n i e
valid_line n (neg i) = ltb i n
valid_line n (swap i j) = ltb i n && (ltb j n && not (eqb i j))

abbrev pub not_in : ℕ → List ℕ → Bool
not_in i [] = true
not_in i (p ∷ ps) = not (eqb i p) && not_in i ps

-- different from each other, and below n
abbrev pub places : ℕ → List ℕ → Bool
places n [] = true
places n (p ∷ ps) = ltb p n && (not_in p ps && places n ps)

-- i, i + 1, .., and m of them
abbrev pub counts : ℕ → ℕ → List ℕ → Bool
counts i zero [] = true
counts i zero (x ∷ xs) = false
counts i (suc m) [] = false
counts i (suc m) (x ∷ xs) = eqb x i && counts (suc i) m xs

-- the table qs read at the entries of ps gives 0 to n - 1: whatever goes by qs and then by ps is back at its place
abbrev pub undoes : ℕ → List ℕ → List ℕ → Bool
undoes n ps qs = places (length qs) ps && counts 0 n (map (λ i. get_or qs i 0) ps)

abbrev pub valid : ℕ → Program → Bool
valid n end = true
valid n (l ⨾ p) = valid_line n l && valid n p
valid n (reorder to back p) = undoes n to back && (undoes n back to && valid n p)
valid n (apply o s ps p) = places n ps && (valid (length ps) s && valid n p)
