-- A use undone is what stands at its places, undone and put back. Uses one after another are undone from the last to the first.
use Prim.Native.Nat.{ℕ, zero, suc, ◌+◌, ◌-◌, ◌≤◌, ◌<◌}
use mathlib.Core.Path.{◌≡◌, refl, sym, ◌∙◌, ap}
use mathlib.Core.List.{List}
use native.Mathlib.Omega.{arith}
use lib.ListN.{length}
use lib.IntN.{ℤ}
use Rattle.lifting.specs.Program.{Program, Operator, end, apply, get, put, undo, each, undo_by}
use Rattle.lifting.proofs.Compose.{undo-each}
use Rattle.picture.specs.declared.size.Size.{Size}
use Rattle.forward_one_grid.specs.Held.{numbers, Held}

-- ---- a use

pub used : (o : Operator) (s : Program) (ps : List ℕ) (v x y u : List ℤ) → x ≡ get ps v → y ≡ undo s x → u ≡ put ps y v → u ≡ undo (apply o s ps end) v
unfolding undo_by
used o s ps v x y u a b c = rw (c, b, a)

-- ---- uses in a row: what is still to be undone

less : (i : ℕ) (f : ℕ → Program) (v w e : List ℤ) → 0 < i → undo (each i f) v ≡ e → w ≡ undo (f (i - 1)) v → undo (each (i - 1) f) w ≡ e
less zero f v w e h a b = absurd (omega (arith, h))
less (suc k) f v w e h a b = rw (b, back_one) (sym (undo-each k f v) ∙ a)
  where
    back_one : suc k - 1 ≡ k
    back_one = omega arith

none : (f : ℕ → Program) (i : ℕ) (v e : List ℤ) → i ≡ 0 → undo (each i f) v ≡ e → v ≡ e
unfolding undo_by each
none f zero v e h a = a
none f (suc i) v e h a = absurd (omega (arith, h))

-- ---- the loops: n uses f 0 to f (n - 1) of the grid, of which those below i are still to be undone

pub record Undoing (size : Size) (f : ℕ → Program) (n : ℕ) (dc₀ low₀ dc low : List ℤ) (i : ℕ) : Type 0 where
  pub within : i ≤ n
  pub held : Held size dc low
  pub of-dc : length dc ≡ length dc₀
  pub of_low : length low ≡ length low₀
  pub to_undo : undo (each i f) (numbers size dc low) ≡ undo (each n f) (numbers size dc₀ low₀)

pub still_held : {size : Size} {dc low dc' low' : List ℤ} → Held size dc low → length dc' ≡ length dc → length low' ≡ length low → Held size dc' low'
still_held h a b = record { of-dc = a ∙ h.of-dc; of_low = b ∙ h.of_low }

pub undoing_start : {size : Size} {f : ℕ → Program} {n i : ℕ} {dc low : List ℤ} → Held size dc low → i ≡ n → Undoing size f n dc low dc low i
undoing_start {size} {f} {dc = dc} {low} h e =
    record { within = omega arith; held = h; of-dc = refl; of_low = refl; to_undo = ap (λ (k : ℕ). undo (each k f) (numbers size dc low)) e }

pub undoing_step : {size : Size} {f : ℕ → Program} {n i : ℕ} {dc₀ low₀ dc low dc' low' : List ℤ} → Undoing size f n dc₀ low₀ dc low i → 0 < i
    → length dc' ≡ length dc → length low' ≡ length low → numbers size dc' low' ≡ undo (f (i - 1)) (numbers size dc low) → Undoing size f n dc₀ low₀ dc' low' (i - 1)
undoing_step {f = f} {i = i} u h a b e =
    record { within = omega (arith, u.within); held = still_held u.held a b; of-dc = a ∙ u.of-dc; of_low = b ∙ u.of_low; to_undo = less i f _ _ _ h u.to_undo e }

-- n uses at a time
each-split : (a n : ℕ) (f : ℕ → Program) (v : List ℤ) → undo (each (a + n) f) v ≡ undo (each a f) (undo (each n (λ l. f (a + l))) v)
unfolding each undo_by
each-split a zero f v = ap (λ (k : ℕ). undo (each k f) v) no_more
  where
    no_more : a + 0 ≡ a
    no_more = omega arith
each-split a (suc n) f v =
    ap (λ (k : ℕ). undo (each k f) v) one_more
    ∙ undo-each (a + n) f v ∙ each-split a n f (undo (f (a + n)) v) ∙ ap (undo (each a f)) (sym (undo-each n (λ l. f (a + l)) v))
  where
    one_more : a + suc n ≡ suc (a + n)
    one_more = omega arith

pub undoing_steps : {size : Size} {f : ℕ → Program} {n i : ℕ} {dc₀ low₀ dc low dc' low' : List ℤ} (m : ℕ) → Undoing size f n dc₀ low₀ dc low i → m ≤ i
    → length dc' ≡ length dc → length low' ≡ length low → numbers size dc' low' ≡ undo (each m (λ l. f (i - m + l))) (numbers size dc low) → Undoing size f n dc₀ low₀ dc' low' (i - m)
undoing_steps {size} {f} {i = i} {dc = dc} {low} m u h a b e =
    record {
      within = omega (arith, u.within);
      held = still_held u.held a b;
      of-dc = a ∙ u.of-dc;
      of_low = b ∙ u.of_low;
      to_undo = rw e (sym (each-split (i - m) m f _) ∙ ap (λ (k : ℕ). undo (each k f) (numbers size dc low)) all ∙ u.to_undo);
    }
  where
    all : i - m + m ≡ i
    all = omega arith

pub undoing_end : {size : Size} {f : ℕ → Program} {n i : ℕ} {dc₀ low₀ dc low : List ℤ} → Undoing size f n dc₀ low₀ dc low i → i ≤ 0
    → numbers size dc low ≡ undo (each n f) (numbers size dc₀ low₀)
undoing_end {f = f} {i = i} u h = none f i _ _ (omega arith) u.to_undo
