-- Memory of which the front was lent: what the call left there, and behind it what was there.
use Rattle.std.proofs.Common.{◌≡◌, ℕ, zero, suc, List, ◌++◌, take, drop, refl, ap, ℤ}
use lib.ListN.{take-append-drop}
use Rattle.picture.specs.declared.refusals.Refusal.{Refusal}
use Rattle.picture.specs.Refusals.{number_of_refusal}
use Rattle.picture.specs.Numbers.{settled}
use Rattle.picture.specs.Planes.{Planes}
use Rattle.plane_file.proofs.Checks.{kept}
use Rattle.decode.specs.Program.{program_number, left}

front : (k n : ℕ) (x was : List ℤ) → settled k x (take n was) ++ drop n was ≡ settled k (x ++ drop n was) was
front zero n x was = refl
front (suc k) n x was = take-append-drop n was

-- the front was lent to a call that has the number k, and that is the program's
pub left_front : (bytes : List ℕ) (k n m : ℕ) (x was : List ℤ) {u : List ℤ} → k ≡ program_number bytes → m ≡ n → u ≡ settled k x (take m was) → u ++ drop m was ≡ left bytes n x was
left_front bytes k n m x was e h p = rw (← e, ← h, p) (front k m x was)

-- of one of the planes
pub plane_of : (f : Planes → List ℤ) (k : ℕ) (x y : Planes) {s : Planes} → s ≡ settled k x y → f s ≡ settled k (f x) (f y)
plane_of f zero x y e = ap f e
plane_of f (suc k) x y e = ap f e

-- nothing was lent
pub left_whole : (bytes : List ℕ) (refusal : Refusal) → number_of_refusal refusal ≡ program_number bytes → (n : ℕ) (x was : List ℤ) → was ≡ left bytes n x was
left_whole bytes refusal e n x was = kept refusal (x ++ drop n was) was e
