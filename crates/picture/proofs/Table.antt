-- Tables of f 0 to f (n - 1): their length, their entries, and lists that are equal entry by entry, by induction on the length.
use Prim.Native.Nat.{ℕ, zero, suc, ◌<◌}
use mathlib.Core.Path.{◌≡◌, refl, sym, ◌∙◌, ap, subst}
use mathlib.Core.List.{List}
use native.Mathlib.Omega.{arith}
use lib.ListN.{length}
use lib.Seq.{ext_get_or}
use lib.IntN.{ℤ, pos}
use mir.Val.{SFits}
use mir.Syntax.{w32}
use Rattle.lifting.specs.Program.{at}
use Rattle.lifting.specs.Row.{Row}
use Rattle.lifting.proofs.Reverse.{row_of}
use Rattle.picture.specs.Table.{table}

pub length-table : (n : ℕ) (f : ℕ → ℤ) → length (table n f) ≡ n
unfolding table
length-table zero f = refl
length-table (suc n) f = ap suc (length-table n (λ i. f (suc i)))

pub at_table : (n : ℕ) (f : ℕ → ℤ) (i : ℕ) → i < n → at (table n f) i ≡ f i
unfolding table
at_table zero f i h = absurd (omega arith)
at_table (suc n) f zero h = refl
at_table (suc n) f (suc i) h = at_table n (λ j. f (suc j)) i (omega arith)

-- two lists of n numbers are equal if they are equal at each place
pub same_lists : (n : ℕ) (v w : List ℤ) → length v ≡ n → length w ≡ n → ((i : ℕ) → i < n → at v i ≡ at w i) → v ≡ w
same_lists n v w h k e = ext_get_or (pos 0) v w (h ∙ sym k) (λ i l. e i (omega arith))

-- a list that has f's numbers at its places is f's table
pub table_is : (n : ℕ) (f : ℕ → ℤ) (v : List ℤ) → length v ≡ n → ((i : ℕ) → i < n → f i ≡ at v i) → table n f ≡ v
table_is n f v h e = same_lists n (table n f) v (length-table n f) h (λ i l. at_table n f i l ∙ e i l)

pub table_same : (n : ℕ) (f g : ℕ → ℤ) → ((i : ℕ) → i < n → f i ≡ g i) → table n f ≡ table n g
table_same n f g e = table_is n f (table n g) (length-table n g) (λ i l. e i l ∙ sym (at_table n g i l))

pub row-table : (n : ℕ) (f : ℕ → ℤ) → ((i : ℕ) → i < n → SFits w32 (f i)) → Row n (table n f)
row-table n f h =
    let r = row_of (table n f) (λ i l. subst (SFits w32) (sym (at_table n f i (omega (arith, length-table n f)))) (h i (omega (arith, length-table n f)))) in
    record { len = length-table n f; fit = r.fit }
