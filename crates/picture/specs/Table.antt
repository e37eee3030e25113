-- Tables of f 0 to f (n - 1).
use Rattle.std.specs.Prelude.{ℕ, zero, suc, List, [], ◌∷◌, ℤ}

-- f 0, f 1, .., f (n - 1)
unfoldable pub table : ℕ → (ℕ → ℤ) → List ℤ
table zero f = []
table (suc n) f = f zero ∷ table n (λ i. f (suc i))
