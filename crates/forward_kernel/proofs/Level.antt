-- A level undone: with filters they are undone first and then the cores, without them the cores alone.
use Prim.Native.Nat.{ℕ}
use mathlib.Core.Path.{◌≡◌, sym, subst}
use mathlib.Core.Bool.{Bool, true, false}
use mathlib.Core.List.{List}
use lib.Dec.{T}
use lib.IntN.{ℤ}
use Rattle.lifting.specs.Program.{end, undo, undo_by}
use Rattle.lifting.proofs.Compose.{undo_then}
use Rattle.transform.specs.Level.{cores, filters, level}

pub level_filtered : (b : Bool) (p q : ℕ) (v : List ℤ) {v1 v2 : List ℤ} → b ≡ true → v1 ≡ undo (filters p q) v → v2 ≡ undo (cores p q) v1 → v2 ≡ undo (level b p q) v
unfolding level
level_filtered true p q v h e f = rw (f, e) (sym (undo_then (cores p q) (filters p q) _))
level_filtered false p q v h e f = absurd (subst (λ (b : Bool). T b) (sym h) tt)

pub level_plain : (b : Bool) (p q : ℕ) (v : List ℤ) {v1 : List ℤ} → b ≡ false → v1 ≡ undo (cores p q) v → v1 ≡ undo (level b p q) v
unfolding level undo_by
level_plain false p q v h e = rw e (sym (undo_then (cores p q) end _))
level_plain true p q v h e = absurd (subst (λ (b : Bool). T b) h tt)
