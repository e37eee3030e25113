-- The square's numbers through the operator and back to their places.
use Rattle.transform.specs.Level.{core_at}
use Rattle.grid.proofs.Squares.{used}
use Rattle.inverse_one.proofs.cores.core_at.Goals as goal

pub returns : goal.returns
unfolding core_at
returns c =
    let c1 = c.before in
    let c3 = c1.before.before in
    used _ _ _ _ _ _ c3.before.get_square.ensures c3.core-b.ensures c1.put_square.ensures
