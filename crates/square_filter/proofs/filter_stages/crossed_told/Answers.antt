-- The uses of the stage in turn, each by what its call ensures and tells.
use mathlib.Core.Path.{ap}
use Rattle.lifting.specs.Program.{get, put}
use Rattle.lifting.proofs.Traces.{◌▸◌, at-end, ran}
use Rattle.figures.specs.Pieces.{crossed_stage}
use Rattle.blocks.specs.Quads.{mirrored}
use Rattle.figures.proofs.Parts.{told, pair, four}
use Rattle.blocks.proofs.Blocks.{quads}
use Rattle.square_filter.proofs.filter_stages.crossed_told.Goals as goal

pub returns : goal.returns
unfolding get put crossed_stage mirrored
returns c63 =
    let c52 = c63.before.before.before.before.before.before.before.before.before.before.before in
    let c51 = c52.before in
    let c49 = c51.before.before in
    let c47 = c49.before.before in
    let c46 = c47.before in
    let c45 = c46.before in
    let c44 = c45.before in
    let c43 = c44.before in
    let c41 = c43.before.before in
    let c37 = c41.before.before.before.before in
    let c33 = c37.before.before.before.before in
    let c29 = c33.before.before.before.before in
    let c28 = c29.before in
    let c25 = c28.before.before.before in
    let c19 = c25.before.before.before.before.before.before in
    let c15 = c19.before.before.before.before in
    let c11 = c15.before.before.before.before in
    let c10 = c11.before in
    let c9 = c10.before in
    let c7 = c9.before.before in
    let c6 = c7.before in
    let c5 = c6.before in
    let a = c5.before.before.before.before.before.args in
    let v = a.v in
    let read = ap mirrored (quads v (told _ c6.struct_told-2-1.given) (told _ c5.struct_told-1.given) (told _ c10.struct_told-4-1.given) (told _ c9.struct_told-3-1.given)) in
    ran a.tell crossed_stage _ read
    (record { done = pair c45.struct_told-23-1.given c7.rotation_told-nm_told.ensures.done; told = c7.rotation_told-nm_told.ensures.told }
    ▸ record { done = pair c51.struct_told-29-1.given c11.rotation_told-ji_told.ensures.done; told = c11.rotation_told-ji_told.ensures.told }
    ▸ record { done = pair c44.struct_told-22-1.given c15.rotation_told-hd_told.ensures.done; told = c15.rotation_told-hd_told.ensures.told }
    ▸ record { done = pair c47.struct_told-25-1.given c19.rotation_told-gc_told.ensures.done; told = c19.rotation_told-gc_told.ensures.told }
    ▸ record { done = four c28.struct_told-14-1.given c25.post_odd_odd_told-klop_told.ensures.done; told = c25.post_odd_odd_told-klop_told.ensures.told }
    ▸ record { done = pair c43.struct_told-21-1.given c29.scale_told-ap_told.ensures.done; told = c29.scale_told-ap_told.ensures.told }
    ▸ record { done = pair c46.struct_told-24-1.given c33.scale_told-bo_told.ensures.done; told = c33.scale_told-bo_told.ensures.told }
    ▸ record { done = pair c49.struct_told-27-1.given c37.scale_told-el_told.ensures.done; told = c37.scale_told-el_told.ensures.told }
    ▸ record { done = pair c52.struct_told-30-1.given c41.scale_told-fk_told.ensures.done; told = c41.scale_told-fk_told.ensures.told }
    ▸ at-end)
