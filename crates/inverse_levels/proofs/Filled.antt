-- A grid that is filled part by part: a square's places are those of its coefficients and of no other square's, so that parts join, and none of them lies before the square's own number.
use Prim.Native.Nat.{ℕ, ◌*◌, ◌/◌, ◌%◌, ◌≤◌, ◌<◌}
use mathlib.Core.Path.{◌≡◌, refl, sym, ◌∙◌, ap, subst}
use mathlib.Core.List.{List, map}
use native.Mathlib.Omega.{arith}
use native.Mathlib.Nat.{div-add-mod'}
use lib.ListN.{length}
use lib.IntN.{ℤ}
use Rattle.lifting.specs.Program.{at, put}
use Rattle.lifting.proofs.Reverse.{length-put}
use Rattle.transform.specs.Level.{cell, square}
use Rattle.picture.specs.Table.{table}
use Rattle.transform.specs.Grids.{square_of, place, grid}
use Rattle.picture.proofs.Table.{length-table, at_table}
use Rattle.transform.proofs.Geometry.{square-of-place, place-of-square}
use Rattle.transform.proofs.Grid.{grid-is}
use Rattle.transform.proofs.Squares.{sixteen, square-is, own, other}
use Rattle.inverse_levels.specs.Filled.{Filled}

-- the place of a coefficient does not come before its square's number
pub square-not-after : {p : ℕ} → 0 < p → (i : ℕ) → square_of p i ≤ i
square-not-after {p} wide i =
    let s = square_of p i in
    omega (arith, place-of-square wide i, div-add-mod' s p)

pub filled_none : (p : ℕ) (f : ℕ → ℕ → ℤ) (v : List ℤ) (P : ℕ → Type 0) → ((s : ℕ) → ¬ P s) → Filled p f v P v
filled_none p f v P none = record { len = refl; done = λ s k h l. absurd (none s h); rest = λ i h. refl }

-- the squares of P, and then those of Q: together those of R
pub filled_join : {p : ℕ} → 0 < p → {f g : ℕ → ℕ → ℤ} {old v u : List ℤ} {P Q : ℕ → Type 0} (R : ℕ → Type 0) → ((s : ℕ) → Dec (Q s)) → ((s : ℕ) → R s → ¬ Q s → P s)
    → ((s : ℕ) → P s → R s) → ((s : ℕ) → Q s → R s) → ((s k : ℕ) → Q s → k < 16 → g s k ≡ f s k) → Filled p f old P v → Filled p g v Q u → Filled p f old R u
filled_join {p} wide {f} {g} {old} {v} {u} {P} {Q} R decide split first second same r t = record {
  len = t.len ∙ r.len;
  done = λ s k h l. here s k h l (decide s);
  rest = λ i h. t.rest i (λ z. h (second _ z)) ∙ r.rest i (λ z. h (first _ z));
}
  where
    here : (s k : ℕ) → R s → k < 16 → Dec (Q s) → at u (place p s k) ≡ f s k
    here s k h l (yes q) = t.done s k q l ∙ same s k q l
    here s k h l (no n) = t.rest (place p s k) (λ z. n (subst Q (square-of-place wide s k l) z)) ∙ r.done s k (split s h n) l

-- the same squares, said otherwise
pub filled_same : {p : ℕ} {f : ℕ → ℕ → ℤ} {old v : List ℤ} {P : ℕ → Type 0} (Q : ℕ → Type 0) → ((s : ℕ) → Q s → P s) → ((s : ℕ) → P s → Q s) → Filled p f old P v → Filled p f old Q v
filled_same Q to from r = record { len = r.len; done = λ s k h l. r.done s k (to s h) l; rest = λ i h. r.rest i (λ z. h (from _ z)) }

-- one square
pub filled_one : {p : ℕ} → 0 < p → (q b : ℕ) (f : ℕ → ℕ → ℤ) {v u : List ℤ} → b < p * q → 16 * (p * q) ≤ length v → u ≡ put (square (4 * p) (cell p (4 * (b / p)) (4 * (b % p)))) (table 16 (f b)) v
    → Filled p f v (λ s. s ≡ b) u
filled_one {p} wide q b f {v} {u} low long w = record {
  len = ap length y ∙ length-put _ _ v;
  done = λ s k e o. ap (λ z. at z (place p s k)) y ∙ rw e (own wide q b low (table 16 (f b)) v (length-table 16 (f b)) long k o ∙ at_table 16 (f b) k o);
  rest = λ i h. ap (λ z. at z i) y ∙ other wide b _ v i h;
}
  where
    y : u ≡ put (map (place p b) sixteen) (table 16 (f b)) v
    y = w ∙ rw (square-is p (4 * (b / p)) (4 * (b % p)))

-- all squares
pub filled_grid : {p : ℕ} → 0 < p → (q : ℕ) (f : ℕ → ℕ → ℤ) {old v : List ℤ} {P : ℕ → Type 0} → ((s : ℕ) → s < p * q → P s) → length old ≡ 16 * (p * q) → Filled p f old P v → v ≡ grid p q f
filled_grid wide q f all l r = sym (grid-is wide q f _ (r.len ∙ l) (λ s k h m. sym (r.done s k (all s h) m)))
