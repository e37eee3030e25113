-- The table's rule is a test at each of its entries, which is computed.
use Prim.Native.Nat.{ℕ, ◌<◌, ◌≤◌}
use mathlib.Core.Path.{◌≡◌, sym, subst}
use native.Mathlib.Omega.{arith}
use lib.Dec.{eqb, eqb→eq}
use lib.ListN.{get_or}
use Rattle.lifting.proofs.Tests.{all-at}
use Rattle.step_sizes.specs.declared.table.TheConstants.{STEPS}
use Rattle.step_sizes.specs.Steps.{step_of, largest_step}
use Rattle.step_sizes.proofs.Reciprocal.{every_step_works}
use Rattle.step_sizes.proofs.table.step.Goals as goal

rule : (k : ℕ) → k < 256 → get_or STEPS k 0 ≡ step_of k
unfolding step_of
rule k h = eqb→eq (get_or STEPS k 0) (step_of k) (all-at 256 (λ i. eqb (get_or STEPS i 0) (step_of i)) tt k h)

pub returns : goal.returns
returns c = rule c.args.index (omega arith)

pub invariant_of-result : goal.invariant_of-result
invariant_of-result c =
    let w = every_step_works c.args.index (omega arith) in
    subst (λ (s : ℕ). (0 < s) × (s ≤ largest_step)) (sym (rule c.args.index (omega arith))) (w.positive, w.small)
