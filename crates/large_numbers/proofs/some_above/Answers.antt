-- What is known of the numbers of the piece, by their places in the whole.
use Prim.Native.Nat.{◌≤◌}
use lib.IntN.{ℤ, nat_abs}
use mir.Val.{SFits}
use mir.Syntax.{w32}
use Rattle.large_numbers.proofs.Small.{piece}
use Rattle.large_numbers.proofs.some_above.Goals as goal

pub returns : goal.returns
returns c =
    let a = c.args in record {
      at_most = λ h. piece (λ (x : ℤ). nat_abs x ≤ a.limit) a.s.now a.from a.n c.requires (c.joined_marks.ensures.at_most (c.passed_by.ensures h));
      fit = piece (SFits w32) a.s.now a.from a.n c.requires c.joined_marks.ensures.fit;
    }
