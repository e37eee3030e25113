-- Four samples read, unfiltered and stored.
use native.Mathlib.Omega.{arith}
use Rattle.forward_two_edges.proofs.Strips.{spread_four}
use Rattle.forward_two_edges.proofs.unfilter_four.Goals as goal

pub returns : goal.returns
returns c =
    let a = c.args in
    spread_four a.samples.now a.step a.at a.to a.far c.get_four.result c.unfiltered-v.result c.requires.far_nonzero.0 (omega arith) c.get_four.ensures c.unfiltered-v.ensures c.put_four.ensures
