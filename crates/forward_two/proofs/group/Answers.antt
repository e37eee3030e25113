-- The strip filled, its upper rows fetched, its cores undone and its lower rows parked.
use Rattle.forward_two_cores.specs.Blocks.{block_of}
use Rattle.forward_two.proofs.Joined.{columns_carried, group_through}
use Rattle.forward_two.proofs.group.Goals as goal

pub returns : goal.returns
returns c =
    let a = c.args in
    let m = a.here.now in
    let n = c.requires.n_nonzero in record {
      through_2 = group_through m.size a.samples.now m.sized.wide m.r m.c a.n m.below n.2 (block_of a.dc.now a.low.now a.high.now) _ _ a.cells.dc c.requires.dc_value n.1 c.upper.ensures.holds_2 c.requires.through c.cores.ensures.by_index c.cores.ensures.by_index_2
          c.lower.ensures.own c.lower.ensures.others;
      carried_2 = λ e f. columns_carried m.size a.samples.now m.sized.wide m.r m.c a.n m.below n.2 m.first e f c.upper.ensures.holds_3;
    }
