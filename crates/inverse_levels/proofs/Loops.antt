-- A program that repeats a use: nothing before the first turn, and one use more after each; uses that are the same at every turn make the same program.
use Prim.Native.Nat.{ℕ, zero, suc, ◌+◌, ◌*◌, ◌<◌, ◌≤◌}
use mathlib.Core.Path.{◌≡◌, refl, ap₂}
use mathlib.Core.List.{List}
use native.Mathlib.Numerals.{add-one}
use native.Mathlib.Nat.{mul-le-mul}
use native.Mathlib.Omega.{arith}
use lib.IntN.{ℤ}
use Rattle.lifting.specs.Program.{Program, run, each, ◌then◌, run_by}
use Rattle.lifting.proofs.Compose.{run_then, run-each}

pub each_none : (f : ℕ → Program) (v : List ℤ) → v ≡ run (each 0 f) v
unfolding run_by each
each_none f v = refl

pub each_more : (n : ℕ) (f : ℕ → Program) (v w u : List ℤ) → w ≡ run (each n f) v → u ≡ run (f n) w → u ≡ run (each (n + 1) f) v
each_more n f v w u a b = rw (add-one n, run-each, ← a) b

pub each_same : (n : ℕ) (f g : ℕ → Program) → ((k : ℕ) → k < n → f k ≡ g k) → each n f ≡ each n g
unfolding each
each_same zero f g h = refl
each_same (suc n) f g h = ap₂ ◌then◌ (each_same n f g (λ k l. h k (omega arith))) (h n (omega arith))

-- a grid has at most 2100 * 1652 squares
pub few_squares : (j p : ℕ) → j ≤ 1652 → p ≤ 2100 → j * p ≤ 3469200
few_squares j p h k = mul-le-mul h k

pub each_like : (n : ℕ) (f g : ℕ → Program) (v : List ℤ) {u : List ℤ} → u ≡ run (each n f) v → ((k : ℕ) → k < n → f k ≡ g k) → u ≡ run (each n g) v
each_like n f g v e h = rw (each_same n f g h) at e

pub then_more : (p q : Program) (v : List ℤ) {w u : List ℤ} → w ≡ run p v → u ≡ run q w → u ≡ run (p then q) v
then_more p q v a b = rw (run_then p q, ← a) b
