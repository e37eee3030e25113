-- Quantise and then restore, from what each leaves: a number off by at most half its band's step.
use Prim.Native.Nat.{ℕ, zero, suc, ◌/◌, ◌≤◌}
use mathlib.Core.Path.{◌≡◌, sym, ap, ◌∙◌, subst}
use mathlib.Core.List.{List, [], ◌∷◌, map}
use mathlib.Core.Logic.{◌⊎◌, inl, inr}
use native.Mathlib.Omega.{arith}
use native.Mathlib.Decide.{ℕ_discrete}
use lib.IntN.{ℤ, nat_abs, ◌-ℤ◌}
use lib.ListN.{length-map}
use Rattle.lifting.specs.Program.{at}
use Rattle.picture.specs.declared.size.Size.{Size}
use Rattle.picture.specs.Planes.{Planes}
use Rattle.picture.specs.Numbers.{settled}
use Rattle.picture.proofs.NumberLaws.{settled-done}
use Rattle.step_sizes.specs.Steps.{step_of}
use Rattle.step_sizes.specs.Levels.{quantised, restored}
use Rattle.bands.specs.declared.steps.Steps.{Steps}
use Rattle.quantise.specs.Quantise.{quantised_planes, quantise_number}
use Rattle.restore.specs.Restore.{restored_planes, restore_number}
use Rattle.corollaries.proofs.Steps.{every_index_rounds}
use Rattle.clients.specs.Right.{Right, Indices, Room, count}
use Rattle.clients.specs.Faults.{Fault, none}
use Rattle.clients.proofs.FaultLaws.{by_number, shape_right, indices_right, planes-right}
use Rattle.clients.proofs.Numbers.{quantise-faults, restore-faults}

near : (index : ℕ) → index ≤ 255 → (v : List ℤ) (i : ℕ) → nat_abs (at v i -ℤ at (map (restored (step_of index)) (map (quantised (step_of index)) v)) i) ≤ step_of index / 2
near index h [] i = omega arith
near index h (x ∷ v) zero = (every_index_rounds index h).2 x
near index h (x ∷ v) (suc i) = near index h v i

this_or_none : {k number : ℕ} {F : Type 0} → Fault k F none number → (number ≡ 0) ⊎ (number ≡ k)
this_or_none {k} {number} f = case (ℕ_discrete number k)
  where
    case : Dec (number ≡ k) → (number ≡ 0) ⊎ (number ≡ k)
    case (yes e) = inr e
    case (no n) = inl (f.later (λ h. n (f.here h)))

pub nearly : (steps : Steps) (s levels : Planes) → Indices steps → {first number : ℕ} {t u : Planes} → first ≡ 0 → t ≡ settled first (quantised_planes steps s) levels → u ≡ settled number (restored_planes steps t) s → number ≡ 0 → (i : ℕ)
    → (nat_abs (at s.dc i -ℤ at u.dc i) ≤ step_of steps.dc / 2)
    × (nat_abs (at s.low i -ℤ at u.low i) ≤ step_of steps.low / 2)
    × (nat_abs (at s.high i -ℤ at u.high i) ≤ step_of steps.high / 2)
unfolding quantised_planes restored_planes
nearly steps s levels indices {first} {number} {t} {u} a p q b i =
    let e : u ≡ restored_planes steps (quantised_planes steps s) = q ∙ settled-done number _ _ b ∙ ap (restored_planes steps) (p ∙ settled-done first _ _ a) in
    rw e (near steps.dc indices.dc s.dc i, near steps.low indices.low s.low i, near steps.high indices.high s.high i)

module _ (mode : ℕ) (size : Size) (steps : Steps) (s levels : Planes)
    (right : Right mode size) (indices : Indices steps) (room : Room (count size) s) (again : Room (count size) levels) where
  pub quantises : {number : ℕ} → number ≡ quantise_number mode size steps s levels → number ≡ 0
  quantises e = e ∙ planes-right _ again (planes-right _ room (indices_right _ indices (shape_right _ right (quantise-faults mode size steps s levels).faults)))

  rooms : Room (count size) (quantised_planes steps s)
  unfolding quantised_planes
  rooms =
      record {
        dc = length-map s.dc (quantised (step_of steps.dc)) ∙ room.dc;
        low = length-map s.low (quantised (step_of steps.low)) ∙ room.low;
        high = length-map s.high (quantised (step_of steps.high)) ∙ room.high;
      }

  -- restoring refuses for a product alone
  pub restores : {first number : ℕ} {t : Planes} → first ≡ 0 → t ≡ settled first (quantised_planes steps s) levels → number ≡ restore_number mode size steps t s → (number ≡ 0) ⊎ (number ≡ 15)
  restores {first} {number} {t} z p e =
      let q : t ≡ quantised_planes steps s = p ∙ settled-done first _ _ z in
      by_number (λ k. (k ≡ 0) ⊎ (k ≡ 15)) e
      (this_or_none (planes-right _ room (planes-right _ (subst (Room (count size)) (sym q) rooms) (indices_right _ indices (shape_right _ right (restore-faults mode size steps t s).faults)))))
