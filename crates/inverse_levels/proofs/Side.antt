-- Uses of an operator on squares side by side, all read before the first is stored: they are the uses one after another, since no square lies in another's columns.
use Prim.Native.Nat.{ℕ, zero, suc, ◌+◌, ◌-◌, ◌*◌, ◌/◌, ◌%◌, ◌≤◌, ◌<◌}
use mathlib.Core.Path.{◌≡◌, refl, sym, ◌∙◌, ap}
use mathlib.Core.List.{List}
use native.Mathlib.Omega.{arith}
use lib.Arith.{digits_mod}
use lib.ListN.{length}
use lib.IntN.{ℤ}
use Rattle.lifting.specs.Program.{Program, end, apply, Operator, get, put, run, each, run_by}
use Rattle.lifting.proofs.Reverse.{length-put}
use Rattle.lifting.proofs.Compose.{run-each}
use Rattle.lifting.proofs.Between.{All, all_map, none_left}
use Rattle.lifting.proofs.Locality.{Agree, agree_refl, get-same, use_outside}
use Rattle.figures.specs.Figures.{square_filter}
use Rattle.transform.specs.Level.{strip, square}
use Rattle.transform.proofs.Cells.{all-strip, all-square}
use Rattle.grid.proofs.Squares.{used}
use Rattle.inverse_levels.proofs.Loops.{each_more}

pub length-square-filter : (v : List ℤ) → length (run square_filter v) ≡ length v
unfolding run_by square_filter
length-square-filter v = simp length-put

-- in a grid of w columns, the place i lies in the columns of square l of those from `first` on
abbrev Beside : ℕ → ℕ → ℕ → ℕ → Type 0
Beside w first l i = (i - first) % w / 4 ≡ l

row-beside : (w first l r i : ℕ) → 4 * l + 4 ≤ w → i ≡ first + 4 * l + r * w → All (Beside w first l) (strip 1 i)
row-beside w first l r i h e = all-strip (Beside w first l) 1 i (column 0 i (omega arith) (omega arith)) (column 1 (i + 1) (omega arith) (omega arith)) (column 2 (i + 1 + 1) (omega arith) (omega arith)) (column 3 (i + 1 + 1 + 1) (omega arith) (omega arith))
  where
    column : (x k : ℕ) → x < 4 → k ≡ first + 4 * l + r * w + x → Beside w first l k
    column x k m f =
        let d : k - first ≡ r * w + (4 * l + x) = omega arith in
        rw (d, digits_mod r {m = w} {r = 4 * l + x} (omega arith)) (omega arith)

square-beside : (w first l : ℕ) → 4 * l + 4 ≤ w → All (Beside w first l) (square w (first + 4 * l))
square-beside w first l h =
    let i = first + 4 * l in
    all-square (Beside w first l) w i (row-beside w first l 0 i h (omega arith)) (row-beside w first l 1 (i + w) h (omega arith)) (row-beside w first l 2 (i + w + w) h (omega arith))
    (row-beside w first l 3 (i + w + w + w) h (omega arith))

pub side_more : (o : Operator) (s : Program) (w first l : ℕ) (v0 v x : List ℤ) {u : List ℤ} → 4 * l + 4 ≤ w → v ≡ run (each l (λ i. apply o s (square w (first + 4 * i)) end)) v0
    → x ≡ run s (get (square w (first + 4 * l)) v0) → u ≡ put (square w (first + 4 * l)) x v → u ≡ run (each (l + 1) (λ i. apply o s (square w (first + 4 * i)) end)) v0
unfolding run_by
side_more o s w first l v0 v x {u} room before made stored =
    each_more l f v0 v u before (used o s its v (get its v) x refl (made ∙ ap (run s) (sym same)) stored)
  where
    f : ℕ → Program
    f i = apply o s (square w (first + 4 * i)) end

    its : List ℕ
    its = square w (first + 4 * l)

    agree : Agree (Beside w first l) (run (each l f) v0) v0
    agree =
        (none_left (Agree (Beside w first l)) l f
        (λ i h. use_outside (Beside w first l) o s (square w (first + 4 * i)) (all_map {P = Beside w first i} {Q = λ k. ¬ Beside w first l k} (square w (first + 4 * i)) (λ k a b. absurd (omega (arith, a, b, h))) (square-beside w first i (omega arith))))
        ).runs v0 v0 agree_refl

    same : get its v ≡ get its v0
    same = ap (get its) before ∙ get-same (Beside w first l) its (square-beside w first l room) agree

-- n uses more
plus : (i n : ℕ) (f g : ℕ → Program) (v : List ℤ) → ((k : ℕ) → k < n → g k ≡ f (i + k)) → run (each n g) (run (each i f) v) ≡ run (each (i + n) f) v
unfolding each run_by
plus i zero f g v h = ap (λ (m : ℕ). run (each m f) v) none
  where
    none : i ≡ i + 0
    none = omega arith
plus i (suc n) f g v h =
    run-each n g (run (each i f) v)
    ∙ ap (run (g n)) (plus i n f g v (λ k l. h k (omega arith)))
    ∙ ap (λ p. run p (run (each (i + n) f) v)) (h n (omega arith))
    ∙ sym (run-each (i + n) f v)
    ∙ ap (λ (m : ℕ). run (each m f) v) one
  where
    one : suc (i + n) ≡ i + suc n
    one = omega arith

pub each_plus : (i n : ℕ) (f g : ℕ → Program) (v w : List ℤ) {u : List ℤ} → w ≡ run (each i f) v → u ≡ run (each n g) w → ((k : ℕ) → k < n → g k ≡ f (i + k)) → u ≡ run (each (i + n) f) v
each_plus i n f g v w a b same = b ∙ ap (run (each n g)) a ∙ plus i n f g v same
