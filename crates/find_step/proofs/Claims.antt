-- Index 0 passes as its try gives the picture itself; any other answer passes by its own terms.
use Prim.Native.Nat.{ℕ, zero, suc}
use mathlib.Core.Path.{◌≡◌}
use mathlib.Core.Bool.{Bool, true}
use Rattle.picture.specs.Modes.{mode_of}
use Rattle.find_step.specs.FindStep.{Answer}
use Rattle.find_step.specs.Claims.{FindStepClaim}
use Rattle.tries.proofs.Tries.{zero-passes, samples-same}

answer-passes : (test : ℕ → Bool) → test 0 ≡ true → (index : ℕ) → Answer test index → test index ≡ true
answer-passes test z zero a = z
answer-passes test z (suc k) a = a.2

pub find_step_claim : FindStepClaim
find_step_claim mode size shape samples row tolerance =
    let z = zero-passes (mode_of mode) size samples shape.sized row tolerance in
    record { zero = z; same = samples-same (mode_of mode) size samples shape.sized row; answered = λ index a. answer-passes _ z index a }
