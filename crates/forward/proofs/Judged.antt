-- A level that is undone, judged in parts: where no number is large, nothing wraps; else a filter does, or a core, from the coefficients that it was undone to.
use Prim.Native.Nat.{ℕ, ◌*◌, ◌<◌}
use mathlib.Core.Path.{◌≡◌, refl, sym, ◌∙◌, ap}
use mathlib.Core.Bool.{Bool, true, false, or_comm, ◌||◌}
use mathlib.Core.List.{List}
use lib.IntN.{ℤ}
use Rattle.lifting.specs.Program.{undo}
use Rattle.lifting.specs.Row.{Row}
use Rattle.lifting.specs.Wraps.{wraps, undo_wraps, Within}
use Rattle.transform.specs.Level.{cores, filters_if, level}
use Rattle.transform.proofs.NoWrap.{level_undone_calm}
use Rattle.transform.proofs.Told.{level_untold}

module _ (filtered : Bool) {p q : ℕ} (wide : 0 < p) (tall : 0 < q) {v : List ℤ} where
  -- no number is large
  pub calm : Within 33554432 v → false ≡ undo_wraps (level filtered p q) v
  calm h = sym (level_undone_calm filtered p q wide tall v h)

  -- filters, and cores from the grid g that the level is undone to
  module _ (r : Row (16 * (p * q)) v) {g : List ℤ} (h : g ≡ undo (level filtered p q) v) where
    pub judged : {a b : Bool} → a ≡ undo_wraps (filters_if filtered p q) v → b ≡ wraps (cores p q) g → a || b ≡ undo_wraps (level filtered p q) v
    judged e f = rw (e, f, h) (sym (level_untold filtered p q v wide tall r))

    -- the cores were judged first
    pub core-wraps : true ≡ wraps (cores p q) g → true ≡ undo_wraps (level filtered p q) v
    core-wraps e = ap (λ b. b || undo_wraps (filters_if filtered p q) v) e ∙ or_comm (wraps (cores p q) g) (undo_wraps (filters_if filtered p q) v) ∙ judged refl refl

    pub filter-wraps : false ≡ wraps (cores p q) g → {a : Bool} → a ≡ undo_wraps (filters_if filtered p q) v → a ≡ undo_wraps (level filtered p q) v
    filter-wraps e {a} f = or_comm false a ∙ judged f e
