-- The windows of the claim are those of 01: a block or macroblock that differs and whose window holds the sample would be the same after all.
use Prim.Native.Nat.{ℕ, ◌*◌, ◌/◌, ◌%◌, ◌≤◌}
use mathlib.Core.Path.{◌≡◌, refl}
use native.Mathlib.Omega.{arith}
use native.Mathlib.Nat.{mod-lt, div-add-mod', div-lt_iff_lt-mul}
use Rattle.transform.specs.Windows.{Window, high_margin, low_margin}
use Rattle.transform.proofs.WholePictures.{whole_pictures}
use Rattle.corollaries.specs.Sizes.{of}
use Rattle.corollaries.specs.Windows.{Reached, ReachOf, SamplesDependOn}
use Rattle.corollaries.proofs.Sizes.{shape}

reached : {margin beyond side r c y x : ℕ} → margin ≡ beyond → Window margin side r c y x → Reached beyond side r c y x
reached e w = record { below = omega (arith, e, w.row.low); above = omega (arith, e, w.row.high); right = omega (arith, e, w.column.low); left = omega (arith, e, w.column.high) }

reach_of : (mode block macroblock : ℕ) → mode ≤ 2 → high_margin mode ≡ block → low_margin mode ≡ macroblock → ReachOf mode block macroblock
reach_of mode block macroblock m e f W H a b c d s t y x l blocks macroblocks =
    (whole_pictures mode (of W H) (shape m a b c d)).windows s t y x l
    (record {
      blocks = λ i h n w. n (blocks (i / (4 * W)) (i % (4 * W)) ((div-lt_iff_lt-mul {k = 4 * W} (omega arith)).1 (omega arith)) (mod-lt i (omega arith)) (reached e w));
      macroblocks = λ i h n w. n (rw (div-add-mod' i W) at (macroblocks (i / W) (i % W) ((div-lt_iff_lt-mul {k = W} (omega arith)).1 (omega arith)) (mod-lt i (omega arith)) (reached f w)));
    })

pub samples_depend_on : SamplesDependOn
samples_depend_on = (reach_of 0 0 0 (omega arith) refl refl, reach_of 1 2 2 (omega arith) refl refl, reach_of 2 2 10 (omega arith) refl refl)
