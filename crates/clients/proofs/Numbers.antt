-- Each call's number is that of its first fault.
use Prim.Native.Nat.{ℕ, ◌+◌, ◌*◌, ◌<◌}
use mathlib.Core.Path.{◌≡◌}
use mathlib.Core.Bool.{◌||◌}
use mathlib.Core.Logic.{◌⊎◌, inl, inr}
use native.Mathlib.Omega.{arith}
use borrow.Author.Tests.{lt-ltb, le-ltb}
use lib.Dec.{ltb}
use mathlib.Core.List.{List, ◌++◌}
use lib.IntN.{ℤ}
use lib.ListN.{length}
use Rattle.picture.specs.declared.size.Size.{Size}
use Rattle.picture.specs.Planes.{Planes}
use Rattle.picture.specs.Numbers.{◌if◌, shape_checks, inverse_number, quarter_number, forward_number}
use Rattle.bands.specs.declared.steps.Steps.{Steps}
use Rattle.bands.specs.Numbers.{band_checks}
use Rattle.quantise.specs.Quantise.{quantise_number}
use Rattle.restore.specs.Restore.{restore_number, restored_planes, any_out_of}
use Rattle.plane_file.specs.Numbers.{save_number}
use Rattle.find_step.specs.FindStep.{find_number}
use Rattle.corollaries.proofs.Finder.{products_fit, fit_products}
use Rattle.clients.specs.Right.{count}
use Rattle.clients.specs.Faults.{InverseFaults, QuarterFaults, ForwardFaults, SaveFaults, FindFaults, band_faults, QuantiseFaults, RestoreFaults}
use Rattle.clients.proofs.FaultLaws.{Told, no_fault, first_fault, unless_fault, shape_faults_lem, low-faults, plane_faults_lem, sample_fault_lem, length_fault_lem, or_true}

-- an index above 255
above : (a b c : ℕ) → (255 < a) ⊎ ((255 < b) ⊎ (255 < c)) → (14 if (ltb 255 a || (ltb 255 b || ltb 255 c))) ≡ 14
above a b c (inl h) = simp (lt-ltb 255 a h)
above a b c (inr (inl h)) = simp (lt-ltb 255 b h, or_true (ltb 255 a))
above a b c (inr (inr h)) = simp (lt-ltb 255 c h, or_true (ltb 255 b), or_true (ltb 255 a))

none_above : (a b c : ℕ) → ((255 < a) ⊎ ((255 < b) ⊎ (255 < c)) → ⊥) → (14 if (ltb 255 a || (ltb 255 b || ltb 255 c))) ≡ 0
none_above a b c n =
    let x : 255 < a → ⊥ = λ h. n (inl h) in
    let y : 255 < b → ⊥ = λ h. n (inr (inl h)) in
    let z : 255 < c → ⊥ = λ h. n (inr (inr h)) in
    simp (le-ltb 255 a (omega (arith, x)), le-ltb 255 b (omega (arith, y)), le-ltb 255 c (omega (arith, z)))

module _ (mode : ℕ) (size : Size) where
  pub inverse-faults : (s : Planes) (samples : List ℤ) → InverseFaults mode size s samples (inverse_number mode size s samples)
  unfolding inverse_number
  inverse-faults s samples = record { faults = (shape_faults_lem mode size (plane_faults_lem (count size) s (sample_fault_lem (count size) samples no_fault))).told }

  pub forward-faults : (samples : List ℤ) (s : Planes) → ForwardFaults mode size samples s (forward_number mode size samples s)
  unfolding forward_number
  forward-faults samples s = record { faults = (shape_faults_lem mode size (sample_fault_lem (count size) samples (plane_faults_lem (count size) s no_fault))).told }

  pub save-faults : (s : Planes) (bytes : List ℕ) → SaveFaults mode size s bytes (save_number mode size s bytes)
  unfolding save_number
  save-faults s bytes = record { faults = (shape_faults_lem mode size (plane_faults_lem (count size) s (length_fault_lem 12 (length bytes) (32 + 1024 * count size) tt no_fault))).told }

  pub find_faults : (samples second : List ℤ) (s : Planes) → FindFaults mode size samples second s (find_number mode size samples second s)
  unfolding find_number
  find_faults samples second s =
      record { faults = (shape_faults_lem mode size (sample_fault_lem (count size) samples (sample_fault_lem (count size) second (plane_faults_lem (count size) s no_fault)))).told }

  pub quarter-faults : (dc low view : List ℤ) → QuarterFaults mode size dc low view (quarter_number mode size dc low view)
  unfolding quarter_number
  quarter-faults dc low view = record { faults = (shape_faults_lem mode size (low-faults (count size) dc low (length_fault_lem 8 (length view) (16 * count size) tt no_fault))).told }

  band_faults_lem : (steps : Steps) (read written : Planes) {rest : ℕ → Type 0} {checks : List ℕ} → Told checks rest
      → Told (shape_checks mode size ++ (band_checks (count size) steps read written ++ checks)) (band_faults mode size steps read written rest)
  band_faults_lem steps read written r =
      shape_faults_lem mode size
      (first_fault tt (above steps.dc steps.low steps.high) (none_above steps.dc steps.low steps.high) (plane_faults_lem (count size) read (plane_faults_lem (count size) written r)))

  pub quantise-faults : (steps : Steps) (read written : Planes) → QuantiseFaults mode size steps read written (quantise_number mode size steps read written)
  unfolding quantise_number
  quantise-faults steps read written = record { faults = (band_faults_lem steps read written no_fault).told }

  pub restore-faults : (steps : Steps) (read written : Planes) → RestoreFaults mode size steps read written (restore_number mode size steps read written)
  unfolding restore_number
  restore-faults steps read written =
      record { faults = (band_faults_lem steps read written (unless_fault 15 (any_out_of (restored_planes steps read)) tt products_fit fit_products no_fault)).told }
