-- The uses of the stage from the last to the first, each by what its call ensures.
use mathlib.Core.Path.{ap, refl}
use mathlib.Core.Bool.{true}
use Rattle.lifting.specs.Program.{get, put}
use Rattle.lifting.proofs.Traces.{◌◂◌, at_start, undone}
use Rattle.figures.specs.Pieces.{crossed_stage}
use Rattle.blocks.specs.Quads.{mirrored}
use Rattle.figures.proofs.Parts.{told, pair, four}
use Rattle.blocks.proofs.Blocks.{quads}
use Rattle.square_filter.proofs.filter_stages.undo_crossed.Goals as goal

pub returns : goal.returns
unfolding get put crossed_stage mirrored
returns c =
    let read = ap mirrored (quads c.args.v (told _ c.struct_told-7-1.given) (told _ c.struct_told-5-1.given) (told _ c.struct_told-3-1.given) (told _ c.struct_told-1.given)) in
    let done = undone true crossed_stage _ read
    (at_start
    ◂ record { done = pair c.struct_told-9-1.given c.undo_scale_told.ensures.done; told = refl }
    ◂ record { done = pair c.struct_told-10-1.given c.undo_scale_told-2.ensures.done; told = refl }
    ◂ record { done = pair c.struct_told-11-1.given c.undo_scale_told-3.ensures.done; told = refl }
    ◂ record { done = pair c.struct_told-12-1.given c.undo_scale_told-4.ensures.done; told = refl }
    ◂ record { done = four c.struct_told-24-1.given c.undo_post_odd_odd_told.ensures.done; told = refl }
    ◂ record { done = pair c.struct_told-26-1.given c.undo_rotation_told.ensures.done; told = refl }
    ◂ record { done = pair c.struct_told-22-1.given c.undo_rotation_told-2.ensures.done; told = refl }
    ◂ record { done = pair c.struct_told-31-1.given c.undo_rotation_told-3.ensures.done; told = refl }
    ◂ record { done = pair c.struct_told-23-1.given c.undo_rotation_told-4.ensures.done; told = refl }) in
    done.done
