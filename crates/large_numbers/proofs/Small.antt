-- Places that were looked at, joined, up to a whole row.
use Prim.Native.Nat.{ℕ, ◌+◌, ◌-◌, ◌≤◌, ◌<◌}
use mathlib.Core.Path.{◌≡◌, refl, subst, ◌∙◌, ap}
use mathlib.Core.Bool.{Bool, true, false, true≢false, ◌||◌}
use mathlib.Core.List.{List}
use mathlib.Core.Logic.{by_cases}
use native.Mathlib.Omega.{arith}
use native.Mathlib.Decide.{dec_lt}
use lib.IntN.{ℤ, pos}
use lib.ListN.{length, take, drop, length-take, length-drop}
use Rattle.std.proofs.lemmas.List.{get_or-take, get_or-drop}
use Rattle.lifting.specs.Program.{at}
use Rattle.lifting.specs.Row.{Row}
use Rattle.lifting.specs.Wraps.{Within}
use Rattle.lifting.proofs.Calm.{within_all}
use Rattle.large_numbers.specs.Small.{Small}

-- ---- two looks, neither of which found a large number

pub neither : {P Q R : Type 0} {large found : Bool} → (P → Q → R) → (large ≡ false → P) → (found ≡ false → Q) → large || found ≡ false → R
neither {large = true} {found = found} join p q e = absurd (true≢false e)
neither {large = false} {found = found} join p q e = join (p refl) (q e)

-- ---- rows of places

pub small-none : (v : List ℤ) {a b : ℕ} → b ≤ a → Small v a b
small-none v h i l r = absurd (omega arith)

-- places a to b, and then c to d, with none between them: all up to e
pub small_up_to : (v : List ℤ) {a b c d e : ℕ} → c ≤ b → e ≤ d → Small v a b → Small v c d → Small v a e
small_up_to v {b = b} h k p q i l r = by_cases (dec_lt i b) (λ o. p i l o) (λ o. q i (omega (arith, o)) (omega arith))

pub small_join : (v : List ℤ) {a b c d : ℕ} → c ≤ b → Small v a b → Small v c d → Small v a d
small_join v h = small_up_to v h (omega arith)

pub small_part : (v : List ℤ) {a b c d : ℕ} → Small v a b → a ≤ c → d ≤ b → Small v c d
small_part v p h k i l r = p i (omega arith) (omega arith)

-- one place more, whatever is said of each
pub one_more : {a b : ℕ} (k : ℕ) (P : ℕ → Type 0) → ((i : ℕ) → a ≤ i → i < k → P i) → P k → b ≤ k + 1 → (i : ℕ) → a ≤ i → i < b → P i
one_more k P f p h i l r = by_cases (dec_lt i k) (λ o. f i l o) (λ o. let e : k ≡ i = omega (arith, o) in subst P e p)

-- what is said of each number of a piece, said by its place in the whole
pub piece : (P : ℤ → Type 0) (v : List ℤ) (a n : ℕ) → a + n ≤ length v
    → ((i : ℕ) → 0 ≤ i → i < length (take (a + n - a) (drop a v)) → P (at (take (a + n - a) (drop a v)) i))
    → (i : ℕ) → a ≤ i → i < a + n → P (at v i)
piece P v a n h f i l r =
    let e : at (take (a + n - a) (drop a v)) (i - a) ≡ at v i = get_or-take (a + n - a) (drop a v) (i - a) (pos 0) (omega arith) ∙ get_or-drop a v (i - a) (pos 0) ∙ ap (at v) (omega arith) in
    subst P e (f (i - a) (omega arith) (omega (arith, length-take (a + n - a) (drop a v), length-drop a v)))

-- ---- the whole row

pub small-within : (v : List ℤ) → Small v 0 (length v) → Within 33554432 v
small-within v p = within_all v (λ i l. p i (omega arith) l)

-- a row's length in other words
pub row_as : {n m : ℕ} {v : List ℤ} → Row n v → n ≡ m → Row m v
row_as {v = v} r e = subst (λ (k : ℕ). Row k v) e r
