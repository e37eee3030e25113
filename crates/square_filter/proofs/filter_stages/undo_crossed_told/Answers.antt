-- The uses of the stage undone, from the last to the first, each by what its call ensures and tells.
use mathlib.Core.Path.{ap}
use mathlib.Core.Bool.{true}
use Rattle.lifting.specs.Program.{get, put}
use Rattle.lifting.proofs.Traces.{◌◂◌, at_start, undone}
use Rattle.figures.specs.Pieces.{crossed_stage}
use Rattle.blocks.specs.Quads.{mirrored}
use Rattle.figures.proofs.Parts.{told, pair, four}
use Rattle.blocks.proofs.Blocks.{quads}
use Rattle.square_filter.proofs.filter_stages.undo_crossed_told.Goals as goal

pub returns : goal.returns
unfolding get put crossed_stage mirrored
returns c67 =
    let c53 = c67.before.before.before.before.before.before.before.before.before.before.before.before.before.before in
    let c48 = c53.before.before.before.before.before in
    let c46 = c48.before.before in
    let c45 = c46.before in
    let c44 = c45.before in
    let c41 = c44.before.before.before in
    let c37 = c41.before.before.before.before in
    let c33 = c37.before.before.before.before in
    let c29 = c33.before.before.before.before in
    let c25 = c29.before.before.before.before in
    let c24 = c25.before in
    let c23 = c24.before in
    let c22 = c23.before in
    let c21 = c22.before in
    let c19 = c21.before.before in
    let c17 = c19.before.before in
    let c15 = c17.before.before in
    let c13 = c15.before.before in
    let c11 = c13.before.before in
    let c9 = c11.before.before in
    let c7 = c9.before.before in
    let c5 = c7.before.before in
    let v = c5.before.before.before.before.before.args.v in
    let read = ap mirrored (quads v (told _ c17.struct_told-7-1.given) (told _ c13.struct_told-5-1.given) (told _ c9.struct_told-3-1.given) (told _ c5.struct_told-1.given)) in
    undone true crossed_stage _ read
    (at_start
    ◂ record { done = pair c21.struct_told-9-1.given c7.undo_scale_told-fk_told.ensures.done; told = c7.undo_scale_told-fk_told.ensures.told }
    ◂ record { done = pair c22.struct_told-10-1.given c11.undo_scale_told-el_told.ensures.done; told = c11.undo_scale_told-el_told.ensures.told }
    ◂ record { done = pair c23.struct_told-11-1.given c15.undo_scale_told-bo_told.ensures.done; told = c15.undo_scale_told-bo_told.ensures.told }
    ◂ record { done = pair c24.struct_told-12-1.given c19.undo_scale_told-ap_told.ensures.done; told = c19.undo_scale_told-ap_told.ensures.told }
    ◂ record { done = four c46.struct_told-24-1.given c25.undo_post_odd_odd_told-klop_told.ensures.done; told = c25.undo_post_odd_odd_told-klop_told.ensures.told }
    ◂ record { done = pair c48.struct_told-26-1.given c29.undo_rotation_told-gc_told.ensures.done; told = c29.undo_rotation_told-gc_told.ensures.told }
    ◂ record { done = pair c44.struct_told-22-1.given c33.undo_rotation_told-hd_told.ensures.done; told = c33.undo_rotation_told-hd_told.ensures.told }
    ◂ record { done = pair c53.struct_told-31-1.given c37.undo_rotation_told-ji_told.ensures.done; told = c37.undo_rotation_told-ji_told.ensures.told }
    ◂ record { done = pair c45.struct_told-23-1.given c41.undo_rotation_told-nm_told.ensures.done; told = c41.undo_rotation_told-nm_told.ensures.told })
