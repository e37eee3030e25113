-- Each number is read back as it was.
use mathlib.Core.Path.{ap}
use Rattle.figures.specs.Block.{flat}
use Rattle.blocks.specs.Quads.{quartered}
use Rattle.figures.proofs.Parts.{told}
use Rattle.blocks.proofs.Blocks.{quads}
use Rattle.blocks.proofs.quartered.Goals as goal

pub returns : goal.returns
unfolding flat quartered
returns c12 =
    let c11 = c12.before in
    let c10 = c11.before in
    let c9 = c10.before in
    let c8 = c9.before in
    let c7 = c8.before in
    let c6 = c7.before in
    let c5 = c6.before in
    let v = c5.before.before.before.before.before.args.f in
    ap quartered (quads v (told _ c5.struct_told-1.given) (told _ c6.struct_told-2-1.given) (told _ c9.struct_told-5-1.given) (told _ c10.struct_told-6-1.given))
