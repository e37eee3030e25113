-- Each field is the coefficient that its call reads.
use Rattle.lifting.specs.Program.{get}
use Rattle.figures.proofs.Parts.{held}
use Rattle.blocks.proofs.pick.Goals as goal

pub returns : goal.returns
unfolding get
returns c4 =
    let c3 = c4.before in
    let c2 = c3.before in
    let c1 = c2.before in
    rw (held c1.at.type_inv c1.at.ensures, held c2.at-2.type_inv c2.at-2.ensures, held c3.at-3.type_inv c3.at-3.ensures, held c4.at-4.type_inv c4.at-4.ensures)
