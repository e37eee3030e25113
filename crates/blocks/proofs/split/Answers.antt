-- Each four is known as the numbers at its places.
use Rattle.lifting.specs.Program.{get}
use Rattle.figures.specs.Block.{flat}
use Rattle.blocks.specs.Quads.{mirrored}
use Rattle.blocks.proofs.Blocks.{four_is}
use Rattle.blocks.proofs.split.Goals as goal

pub returns : goal.returns
unfolding get flat mirrored
returns c4 =
    let c3 = c4.before in
    let c2 = c3.before in
    let c1 = c2.before in
    rw (four_is c1.pick-p.ensures, four_is c2.pick-q.ensures, four_is c3.pick-r.ensures, four_is c4.pick-s.ensures)
