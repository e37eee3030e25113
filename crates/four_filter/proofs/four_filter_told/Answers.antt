-- Figure 4.13 is its pieces, each by what its calls ensure and tell.
use Rattle.lifting.specs.Program.{◌then◌}
use Rattle.lifting.proofs.Traces.{called, and_then, ran, four_read}
use Rattle.figures.specs.Figures.{four_filter}
use Rattle.figures.specs.Pieces.{four_rotation}
use Rattle.figures.proofs.Parts.{pair, four}
use Rattle.four_filter.proofs.Pieces.{last_lines, pairs}
use Rattle.four_filter.proofs.four_filter_told.Goals as goal

pub returns : goal.returns
unfolding ◌then◌ four_rotation last_lines four_filter
returns c15 =
    let c12 = c15.before.before.before in
    let c11 = c12.before in
    let c8 = c11.before.before.before in
    let c5 = c8.before.before.before in
    let c3 = c5.before.before in
    let c1 = c3.before.before in
    let e = c1.before in
    let f = e.ranges in
    let v = c1.four_rotation_told-v.ensures in
    let o = c5.pair_scale_told-outer.ensures in
    let i = c8.pair_scale_told-inner.ensures in
    ran e.args.tell four_filter _ (four_read f.a f.b f.c f.d)
    (and_then (called record { done = four c3.struct_told-1.given v.done; told = v.told }) (pairs record { done = pair c11.struct_told-5-1.given o.done; told = o.told } record { done = pair c12.struct_told-6-1.given i.done; told = i.told }))
