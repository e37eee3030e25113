-- Figure 4.13 undone is its pieces undone, each by what its calls ensure and tell.
use Rattle.lifting.specs.Program.{◌then◌}
use Rattle.lifting.proofs.Traces.{uncalled, and-back, undone, four_read}
use Rattle.figures.specs.Figures.{four_filter}
use Rattle.figures.specs.Pieces.{four_rotation}
use Rattle.figures.proofs.Parts.{pair}
use Rattle.four_filter.proofs.Pieces.{last_lines, unpairs}
use Rattle.four_filter.proofs.undo_four_filter_told.Goals as goal

pub returns : goal.returns
unfolding ◌then◌ four_rotation last_lines four_filter
returns c13 =
    let c9 = c13.before.before.before.before in
    let c6 = c9.before.before.before in
    let c5 = c6.before in
    let c2 = c5.before.before.before in
    let c1 = c2.before in
    let e = c1.before in
    let f = e.ranges in
    let o = c1.undo_pair_scale_told-outer.ensures in
    let i = c2.undo_pair_scale_told-inner.ensures in
    undone e.args.tell four_filter _ (four_read f.a f.b f.c f.d)
    (and-back (unpairs record { done = pair c5.struct_told-1.given o.done; told = o.told } record { done = pair c6.struct_told-2-1.given i.done; told = i.told }) (uncalled c9.undo_four_rotation_told-v.ensures))
