-- The walk ends at the first macroblock that has a sample too far off.
use mathlib.Core.Path.{refl, ◌∙◌}
use native.Mathlib.Omega.{arith}
use Rattle.std.proofs.Common.{rules}
use Rattle.differences.proofs.Walk.{all_below}
use Rattle.differences.proofs.Pieces.{none_far, all_near-pieces}
use Rattle.differences.proofs.all_near.Goals as goal

pub returns : goal.returns
returns c =
    let s = c.args in
    all_below s.n (none_far s.tolerance s.a.now s.b.now) refl (omega (arith, c.numbers.ensures.value)) c.all.ensures.ran (λ x q k. search rules) (λ x b q l k. search rules)
    ∙ all_near-pieces s.tolerance s.n s.a.now s.b.now c.requires.a_len
