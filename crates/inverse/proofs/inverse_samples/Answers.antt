-- The first level leaves its numbers in the front of the samples, from which the second takes them.
use Prim.Native.Nat.{◌*◌}
use mathlib.Core.Path.{◌≡◌}
use lib.ListN.{length}
use Rattle.std.proofs.Common.{rules}
use Rattle.picture.specs.Sizes.{macroblocks}
use Rattle.picture.specs.Planes.{planes}
use Rattle.inverse.proofs.Both.{view_is, samples_are}
use Rattle.inverse.proofs.inverse_samples.Goals as goal

pub returns : goal.returns
returns c =
    let f = c.args.frame in
    let s = planes c.planes.inside.dc.now c.planes.inside.low.now c.planes.inside.high.now in
    let long : length c.level_one.new.view ≡ 16 * macroblocks f.size = search rules in
    rw (← c.planes.view_is) (samples_are f.mode f.size s c.level_two.ensures.samples_after (view_is f.mode f.size s _ long c.level_one.ensures))
