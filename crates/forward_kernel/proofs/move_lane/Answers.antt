-- Four fours, of which the second begins with the last number of the first.
use Rattle.forward_kernel.proofs.Stores.{lane_moved}
use Rattle.forward_kernel.proofs.move_lane.Goals as goal

pub returns : goal.returns
returns c =
    let a = c.args in
    lane_moved a.l a.from a.out.now a.rest.now c.get_four.result c.get_four-2.result c.get_four-3.result c.get_four-4.result c.requires.from_in_bounds
    c.get_four.ensures c.get_four-2.ensures c.get_four-3.ensures c.get_four-4.ensures c.put_four.ensures c.put_four-2.ensures c.put_four-3.ensures c.put_four-4.ensures
