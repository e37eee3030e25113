-- Level two undone, and level one undone: the planes are what the grids say.
use Rattle.std.proofs.Common.{rules}
use Rattle.picture.specs.Sizes.{macroblocks}
use Rattle.picture.specs.Planes.{Lengths, planes}
use Rattle.forward.proofs.Whole.{planes-are}
use Rattle.forward.proofs.forward_planes.Goals as goal

pub returns : goal.returns
returns c =
    let f = c.args.frame in
    let two = c.undo_level_two.new in
    let one = c.undo_level_one.new in
    let long : Lengths (macroblocks f.size) (planes one.dc one.low two.high) = record { dc = search rules; low = search rules; high = search rules } in
    planes-are f.mode f.size c.get.ensures.sized c.args.samples.now two.dc two.low two.high one.dc one.low long c.undo_level_two.ensures.high_after c.undo_level_one.ensures
