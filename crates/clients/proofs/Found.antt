-- An index that answers leaves every sample within the tolerance; what else the finder's answer says, by its number.
use Prim.Native.Nat.{ℕ, zero, suc, ◌*◌, ◌<◌, ◌≤◌}
use mathlib.Core.Path.{◌≡◌, refl, sym, ap, ◌∙◌, subst}
use mathlib.Core.Bool.{Bool, false}
use mathlib.Core.List.{List, ◌++◌}
use mathlib.Core.Logic.{◌⊎◌, inl, inr}
use native.Mathlib.Omega.{arith}
use lib.IntN.{ℤ, nat_abs, ◌-ℤ◌}
use lib.ListN.{length}
use Rattle.lifting.specs.Row.{Row}
use Rattle.lifting.specs.Program.{at}
use Rattle.large_numbers.proofs.Small.{row_as}
use Rattle.picture.specs.declared.size.Size.{Size}
use Rattle.picture.specs.Sizes.{macroblocks}
use Rattle.picture.specs.Planes.{Planes}
use Rattle.transform.specs.Transform.{inverse, forward}
use Rattle.picture.specs.Numbers.{settled, shape_checks, sample_check, plane_checks}
use Rattle.picture.proofs.NumberLaws.{both_pass, settled-done}
use Rattle.picture.proofs.CheckLaws.{shaped, samples-fit}
use Rattle.restore.specs.Restore.{restored_planes}
use Rattle.quantise.specs.Quantise.{quantised_planes}
use Rattle.tries.specs.Tries.{all_bands, passes, tried_planes, tried_samples}
use Rattle.find_step.specs.FindStep.{Answer, IndexBeside, find_number, length_checks}
use Rattle.corollaries.proofs.Sizes.{numbers}
use Rattle.corollaries.proofs.Finder.{try_is_the_four_calls, answers_keep_the_tolerance}
use Rattle.clients.specs.Right.{count}

module _ (mode : ℕ) (size : Size) (tolerance : ℕ) (samples : List ℤ) where
  pub kept : (second : List ℤ) (s : Planes) (index : ℕ) {number : ℕ} {left : List ℤ} → Row (length samples) samples
      → number ≡ find_number mode size samples second s → IndexBeside number (passes mode size samples tolerance) index
      → left ≡ settled number (tried_samples mode size samples index) second → number ≡ 0
      → (i : ℕ) → i < 256 * count size → nat_abs (at samples i -ℤ at left i) ≤ tolerance
  unfolding find_number
  kept second s index {number} {left} row e beside left_by z i l =
      let checks = length_checks (macroblocks size) samples second s in
      let (first, rest) = both_pass (shape_checks mode size) checks (sym e ∙ z) in
      let (long, others) = both_pass (sample_check (macroblocks size) samples) (sample_check (macroblocks size) second ++ plane_checks (macroblocks size) s) rest in
      let fits = samples-fit (macroblocks size) samples long in
      let answer : Answer (passes mode size samples tolerance) index = subst (λ (k : ℕ). IndexBeside k (passes mode size samples tolerance) index) z beside in
      let r = shaped mode size first in
      let near = answers_keep_the_tolerance mode size.width.0 size.height.0 r.known r.sized.wide r.sized.most-wide r.sized.tall r.sized.most-tall samples (numbers (row_as row fits)) tolerance index answer in
      subst (λ (v : List ℤ). nat_abs (at samples i -ℤ at v i) ≤ tolerance) (sym (left_by ∙ settled-done number _ _ z)) (near i l)

-- ---- what else is found

pub which : (k : ℕ) (test : ℕ → Bool) (index : ℕ) → IndexBeside k test index → k ≡ 0 → (index ≡ 0) ⊎ ((2 ≤ index) × (index ≤ 255))
which zero test zero b z = inl refl
which zero test (suc i) b z = inr (b.0, b.1)
which (suc k) test index b z = absurd (omega (arith, z))

pub none_passes : (k : ℕ) (test : ℕ → Bool) (index : ℕ) → IndexBeside k test index → k ≡ 0 → index ≡ 0 → (j : ℕ) → 2 ≤ j → j ≤ 255 → test j ≡ false
none_passes zero test zero b z e j l h = b j (omega arith) h
none_passes zero test (suc i) b z e j l h = absurd (omega (arith, e))
none_passes (suc k) test index b z e j l h = absurd (omega (arith, z))

pub refused_index : (k : ℕ) (test : ℕ → Bool) (index : ℕ) → IndexBeside k test index → (k ≡ 0 → ⊥) → index ≡ 0
refused_index zero test index b n = absurd (n refl)
refused_index (suc k) test index b n = b

module _ (mode : ℕ) (size : Size) (samples : List ℤ) (index : ℕ) where
  pub restored-planes : tried_planes mode size samples index ≡ restored_planes (all_bands index) (quantised_planes (all_bands index) (forward mode size samples))
  restored-planes = (try_is_the_four_calls mode size.width.0 size.height.0 samples index).0

  pub tried_samples_lem : {s : Planes} {u : List ℤ} → u ≡ tried_samples mode size samples index → s ≡ tried_planes mode size samples index → u ≡ inverse mode size s
  tried_samples_lem e p = e ∙ (try_is_the_four_calls mode size.width.0 size.height.0 samples index).1 ∙ ap (inverse mode size) (sym p)
