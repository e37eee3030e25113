-- What an operator's answer, known as a list, says of each of its numbers: each is read off its place.
-- A number that a local holds is its 32 bits read back, `kept x`, which is x itself where x fits.
use Prim.Native.Nat.{ℕ, ◌<◌}
use mathlib.Core.Path.{◌≡◌, ap, ◌∙◌}
use mathlib.Core.List.{List, [], ◌∷◌}
use lib.IntN.{ℤ}
use lib.Signed.{mag}
use mir.Val.{to_z, of_z}
use mir.Syntax.{w32}
use Rattle.lifting.specs.Program.{at}
use Rattle.lifting.proofs.Bits.{back}
use Rattle.figures.specs.declared.Four.{Four}
use Rattle.figures.specs.Block.{list}

abbrev pub kept : ℤ → ℤ
kept x = to_z w32 (of_z w32 x)

-- the answer of a call, as a local or a field holds it
pub held : {x y : ℤ} → mag x < 2147483648 → x ≡ y → kept x ≡ y
held f e = back f ∙ e

-- one number of two equal lists
pub place : (i : ℕ) {v w : List ℤ} → v ≡ w → at v i ≡ at w i
place i e = ap (λ v. at v i) e

-- a `Pair` that an operator answered, as its local holds it
pub pair : {X Y O : Type 0} {a b : ℤ} {w : List ℤ} → (X × (mag a < 2147483648)) × ((Y × (mag b < 2147483648)) × O) → a ∷ b ∷ [] ≡ w → kept a ∷ kept b ∷ [] ≡ w
pair {a} {b} g e = rw (back {x = a} g.0.1, back {x = b} g.1.0.1) e

-- what a local that holds a `Four` tells of its fields
abbrev pub Told : Type 0 → Type 0 → Type 0 → Type 0 → Type 0 → Four → Type 0
Told X Y Z W O f = (X × (mag f.a < 2147483648)) × ((Y × (mag f.b < 2147483648)) × ((Z × (mag f.c < 2147483648)) × ((W × (mag f.d < 2147483648)) × O)))

abbrev pub kept_four : Four → Four
kept_four f = record { a = kept f.a; b = kept f.b; c = kept f.c; d = kept f.d }

pub told : {X Y Z W O : Type 0} (f : Four) → Told X Y Z W O f → kept_four f ≡ f
told f g = rw (back {x = f.a} g.0.1, back {x = f.b} g.1.0.1, back {x = f.c} g.1.1.0.1, back {x = f.d} g.1.1.1.0.1)

-- a `Four` that an operator answered, as its local holds it
pub four : {X Y Z W O : Type 0} {f : Four} {w : List ℤ} → Told X Y Z W O f → list f ≡ w → list (kept_four f) ≡ w
four {f} g e = ap list (told f g) ∙ e
