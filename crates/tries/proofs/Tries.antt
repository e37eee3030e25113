-- A try, from what its parts leave. That of index 0 gives the picture itself: its step is 1, by which quantising and restoring change nothing, and inverse undoes forward.
use Prim.Native.Nat.{ℕ, zero, suc, ◌*◌}
use mathlib.Core.Path.{◌≡◌, refl, sym, ap, ◌∙◌}
use mathlib.Core.Bool.{Bool, true, false}
use mathlib.Core.List.{List, [], ◌∷◌, map}
use native.Mathlib.Omega.{arith}
use borrow.Author.Tests.{le-ltb, le-leb}
use lib.IntN.{ℤ, pos, negsuc, +ℤ_invr}
use mir.Val.{SFits}
use mir.Syntax.{w32}
use Rattle.lifting.specs.Program.{at}
use Rattle.lifting.specs.Row.{Row}
use Rattle.lifting.specs.Tests.{all}
use Rattle.picture.specs.declared.mode.Mode.{Mode}
use Rattle.picture.specs.declared.size.Size.{Size}
use Rattle.picture.specs.Sizes.{Sized, macroblocks}
use Rattle.picture.specs.Planes.{Planes}
use Rattle.transform.specs.Transform.{forward_by, inverse_by}
use Rattle.transform.proofs.OnePlanes.{planes-forward, inverse-forward}
use Rattle.step_sizes.specs.Steps.{step_of}
use Rattle.step_sizes.specs.Levels.{quantised, restored, is_out_of_range}
use Rattle.step_sizes.proofs.Claims.{step_claim}
use Rattle.bands.specs.Bands.{any_out}
use Rattle.bands.proofs.Bands.{by_plane}
use Rattle.quantise.specs.Quantise.{quantised_planes}
use Rattle.restore.specs.Restore.{restored_planes, any_out_of}
use Rattle.differences.specs.Near.{near}
use Rattle.tries.specs.Tries.{all_bands, tried_planes_by, tried_samples_by, passes_by}

-- ---- step 1

by_one : (l : List ℤ) → map (restored 1) (map (quantised 1) l) ≡ l
by_one [] = refl
by_one (x ∷ l) = let k = step_claim.kept x in rw (k.0, k.1, by_one l)

-- ---- numbers of 32 bits are in the range

inside : (z : ℤ) → SFits w32 z → is_out_of_range z ≡ false
inside (pos n) f = le-ltb 2147483647 n (omega (arith, f.sfits))
inside (negsuc n) f = le-ltb 2147483647 n (omega (arith, f.sfits))

none_out : (l : List ℤ) → ((i : ℕ) → SFits w32 (at l i)) → any_out l ≡ false
none_out [] f = refl
none_out (x ∷ l) f = rw (inside x (f 0), none_out l (λ i. f (suc i)))

-- ---- a picture is near itself

all_true : (n : ℕ) (f : ℕ → Bool) → ((i : ℕ) → f i ≡ true) → all n f ≡ true
all_true zero f h = refl
all_true (suc n) f h = rw (all_true n f h, h n)

near_itself : (tolerance : ℕ) (l : List ℤ) (i : ℕ) → near tolerance l l i ≡ true
near_itself tolerance l i = rw (+ℤ_invr (at l i)) (le-leb 0 tolerance (omega arith))

-- what a try leaves whose products are in the range
pub record Tried (mode : Mode) (size : Size) (samples : List ℤ) (tolerance index : ℕ) (r : Bool) (t : Planes) (u : List ℤ) : Type 0 where
  pub passes : r ≡ passes_by mode size samples tolerance index
  pub planes : t ≡ tried_planes_by mode size samples index
  pub second : u ≡ tried_samples_by mode size samples index

-- ---- the parts of a try, as the code has them: s after forward, t restored, u after inverse

module _ (mode : Mode) (size : Size) (samples : List ℤ) where
  module _ (tolerance index : ℕ) {s : Planes} {out : Bool} (e : s ≡ forward_by mode size samples)
      (o : out ≡ any_out_of (restored_planes (all_bands index) (quantised_planes (all_bands index) s))) where
    tried : restored_planes (all_bands index) (quantised_planes (all_bands index) s) ≡ tried_planes_by mode size samples index
    unfolding tried_planes_by
    tried = ap (λ (p : Planes). restored_planes (all_bands index) (quantised_planes (all_bands index) p)) e

    found : out ≡ any_out_of (tried_planes_by mode size samples index)
    found = o ∙ ap any_out_of tried

    pub out_of_range : out ≡ true → false ≡ passes_by mode size samples tolerance index
    unfolding passes_by
    out_of_range h = rw (sym found ∙ h)

    module _ (h : out ≡ false) {t : Planes} {u : List ℤ} {r : Bool} (p : t ≡ restored_planes (all_bands index) (quantised_planes (all_bands index) s))
        (q : u ≡ inverse_by mode size t) (n : r ≡ all (256 * macroblocks size) (near tolerance samples u)) where
      tried-planes : t ≡ tried_planes_by mode size samples index
      tried-planes = p ∙ tried

      tried_samples_lem : u ≡ tried_samples_by mode size samples index
      unfolding tried_samples_by
      tried_samples_lem = q ∙ ap (inverse_by mode size) tried-planes

      passed : r ≡ passes_by mode size samples tolerance index
      unfolding passes_by
      passed = rw (sym found ∙ h, ← tried_samples_lem) n

      pub decided : Tried mode size samples tolerance index r t u
      decided = record { passes = passed; planes = tried-planes; second = tried_samples_lem }

  -- index 0
  planes-same : tried_planes_by mode size samples 0 ≡ forward_by mode size samples
  unfolding tried_planes_by restored_planes quantised_planes step_of
  planes-same = by_plane (by_one _) (by_one _) (by_one _)

  pub zero-planes : {s : Planes} → s ≡ forward_by mode size samples → s ≡ tried_planes_by mode size samples 0
  zero-planes e = e ∙ sym planes-same

  pub zero-samples : {s : Planes} {u : List ℤ} → s ≡ forward_by mode size samples → u ≡ inverse_by mode size s → u ≡ tried_samples_by mode size samples 0
  unfolding tried_samples_by
  zero-samples e q = q ∙ ap (inverse_by mode size) (zero-planes e)

  module _ (sized : Sized size) (row : Row (256 * macroblocks size) samples) where
    pub samples-same : tried_samples_by mode size samples 0 ≡ samples
    unfolding tried_samples_by
    samples-same = rw planes-same (inverse-forward mode size sized row)

    in_range : any_out_of (forward_by mode size samples) ≡ false
    in_range = let p = planes-forward mode size sized row in rw (none_out _ p.dc.fit, none_out _ p.low.fit, none_out _ p.high.fit)

    pub zero-passes : (tolerance : ℕ) → passes_by mode size samples tolerance 0 ≡ true
    unfolding passes_by
    zero-passes tolerance = rw (planes-same, in_range, samples-same) (all_true (256 * macroblocks size) (near tolerance samples samples) (near_itself tolerance samples))
