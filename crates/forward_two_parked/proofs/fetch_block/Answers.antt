-- Two fours, one to each row.
use Prim.Native.Nat.{ℕ, ◌+◌}
use mathlib.Core.Path.{◌≡◌, ◌∙◌, ap}
use mathlib.Core.List.{[], ◌∷◌}
use native.Mathlib.Omega.{arith}
use lib.IntN.{ℤ}
use mir.Syntax.{w32}
use mir.ValLaws.{to_z-of_z}
use Rattle.lifting.specs.Program.{at}
use Rattle.lifting.proofs.Bits.{back}
use Rattle.figures.proofs.Parts.{kept}
use Rattle.transform.specs.Grids.{coefficients}
use Rattle.forward_kernel.proofs.Stores.{below-four, four-at}
use Rattle.forward_two_parked.proofs.Numbers.{block_fetched}
use Rattle.forward_two_parked.proofs.fetch_block.Goals as goal

pub returns : goal.returns
returns c =
    let second = c in
    let first = second in
    let read = first in
    let t3 = read in
    let t2 = t3 in
    let t1 = t2 in
    let s = t1 in
    let a = s.args in
    let high = a.high.now in
    let g : ℕ → ℤ = coefficients a.zero (λ k. at high (a.from + k)) in
    block_fetched g a.x a.strip.now (kept a.zero ∷ kept (at high a.from) ∷ kept (at high (a.from + 1)) ∷ kept (at high (a.from + 2)) ∷ []) read.get_four-second.result s.requires.1 c.told-strip
    (below-four (λ j. at (kept a.zero ∷ kept (at high a.from) ∷ kept (at high (a.from + 1)) ∷ kept (at high (a.from + 2)) ∷ []) j ≡ g j) (to_z-of_z w32 a.zero s.ranges.zero) (back t1.top-1.given ∙ ap (at high) (omega arith)) (back t2.top-2-1.given) (back t3.top-3-1.given))
    (λ j h. four-at (a.from + 3) read.get_four-second.result high read.get_four-second.ensures j h ∙ below-four (λ i. at high (a.from + 3 + i) ≡ g (i + 4)) (ap (at high) (omega arith)) (ap (at high) (omega arith)) (ap (at high) (omega arith)) (ap (at high) (omega arith)) j h)
    first.put_four.ensures second.put_four-2.ensures
