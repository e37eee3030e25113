-- The two stages of Figure 4.8 as programs, run and undone, from what is known of each four: what they leave, and whether a reduction changes a number.
use mathlib.Core.Path.{◌≡◌, refl, sym, ◌∙◌, ap}
use mathlib.Core.Bool.{Bool, true, ◌||◌}
use mathlib.Core.List.{List}
use lib.IntN.{ℤ, pos}
use Rattle.lifting.specs.Program.{run, undo, get, put}
use Rattle.lifting.specs.Wraps.{wraps, undo_wraps}
use Rattle.figures.specs.Figures.{hadamard, odd, odd_odd, core_stages}
use Rattle.figures.specs.Block.{list}
use Rattle.figures.specs.Pieces.{quarter_stage, core_mirrored_stage}
use Rattle.lifting.proofs.Compose.{run_then, undo_then}
use Rattle.lifting.proofs.Tests.{or_swap}
use Rattle.lifting.proofs.NoWrap.{wraps_then, undo_wraps_then}
use Rattle.lifting.proofs.Traces.{◌▸◌, at-end, ran, ◌◂◌, at_start, undone}
use Rattle.figures.proofs.Figures.{core_stages_lem}
use Rattle.blocks.specs.declared.Quads.{Quads}
use Rattle.blocks.specs.Quads.{quartered, mirrored, OnFours, OnEach, on_some, on_any}
use Rattle.blocks.proofs.Blocks.{some_back}

pub quarter-run : (v w : Quads) → OnFours (run (hadamard (pos 1))) (run odd) (run odd) (run odd_odd) v w
    → (quartered w ≡ run quarter_stage (quartered v)) × (on_some (wraps (hadamard (pos 1))) (wraps odd) (wraps odd) (wraps odd_odd) v ≡ wraps quarter_stage (quartered v))
unfolding get put quartered quarter_stage
quarter-run v w e =
    let u = ran true quarter_stage _ refl (record { done = e.p; told = refl } ▸ record { done = e.q; told = refl } ▸ record { done = e.r; told = refl } ▸ record { done = e.s; told = refl } ▸ at-end) in
    (u.done, u.told)

pub quarter-undo : (v w : Quads) → OnFours (undo (hadamard (pos 1))) (undo odd) (undo odd) (undo odd_odd) v w
    → (quartered w ≡ undo quarter_stage (quartered v)) × (on_some (undo_wraps (hadamard (pos 1))) (undo_wraps odd) (undo_wraps odd) (undo_wraps odd_odd) v ≡ undo_wraps quarter_stage (quartered v))
unfolding get put quartered quarter_stage
quarter-undo v w e =
    let u = undone true quarter_stage _ refl (at_start ◂ record { done = e.s; told = refl } ◂ record { done = e.r; told = refl } ◂ record { done = e.q; told = refl } ◂ record { done = e.p; told = refl }) in
    (u.done, some_back (undo_wraps (hadamard (pos 1))) (undo_wraps odd) (undo_wraps odd) (undo_wraps odd_odd) v ∙ u.told)

-- the uses in the order of the figure's second stage
turned : (f : List ℤ → Bool) (v : Quads) → on_any f v ≡ f (list v.p) || f (list v.s) || f (list v.q) || f (list v.r)
turned f v = or_swap (f (list v.p) || f (list v.q)) (f (list v.r)) (f (list v.s)) ∙ ap (λ x. x || f (list v.r)) (or_swap (f (list v.p)) (f (list v.q)) (f (list v.s)))

turned_back : (f : List ℤ → Bool) (v : Quads) → on_any f v ≡ f (list v.r) || f (list v.q) || f (list v.s) || f (list v.p)
turned_back f v = turned f v ∙ some_back f f f f (record { p = v.p; q = v.s; r = v.q; s = v.r })

pub mirrored-run : (v w : Quads) → OnEach (run (hadamard (pos 0))) v w
    → (mirrored w ≡ run core_mirrored_stage (mirrored v)) × (on_any (wraps (hadamard (pos 0))) v ≡ wraps core_mirrored_stage (mirrored v))
unfolding get put mirrored core_mirrored_stage
mirrored-run v w e =
    let u = ran true core_mirrored_stage _ refl (record { done = e.p; told = refl } ▸ record { done = e.s; told = refl } ▸ record { done = e.q; told = refl } ▸ record { done = e.r; told = refl } ▸ at-end) in
    (u.done, turned (wraps (hadamard (pos 0))) v ∙ u.told)

pub mirrored-undo : (v w : Quads) → OnEach (undo (hadamard (pos 0))) v w
    → (mirrored w ≡ undo core_mirrored_stage (mirrored v)) × (on_any (undo_wraps (hadamard (pos 0))) v ≡ undo_wraps core_mirrored_stage (mirrored v))
unfolding get put mirrored core_mirrored_stage
mirrored-undo v w e =
    let u = undone true core_mirrored_stage _ refl (at_start ◂ record { done = e.r; told = refl } ◂ record { done = e.q; told = refl } ◂ record { done = e.s; told = refl } ◂ record { done = e.p; told = refl }) in
    (u.done, turned_back (undo_wraps (hadamard (pos 0))) v ∙ u.told)

pub stages_run : (v : List ℤ) → run core_mirrored_stage (run quarter_stage v) ≡ run core_stages v
stages_run v = sym (run_then quarter_stage core_mirrored_stage v) ∙ ap (λ p. run p v) core_stages_lem

pub stages_undo : (v : List ℤ) → undo quarter_stage (undo core_mirrored_stage v) ≡ undo core_stages v
stages_undo v = sym (undo_then quarter_stage core_mirrored_stage v) ∙ ap (λ p. undo p v) core_stages_lem

pub stages_wrap : (v : List ℤ) → wraps quarter_stage v || wraps core_mirrored_stage (run quarter_stage v) ≡ wraps core_stages v
stages_wrap v = sym (wraps_then quarter_stage core_mirrored_stage v) ∙ ap (λ p. wraps p v) core_stages_lem

pub undo_stages_wrap : (v : List ℤ) → undo_wraps core_mirrored_stage v || undo_wraps quarter_stage (undo core_mirrored_stage v) ≡ undo_wraps core_stages v
undo_stages_wrap v = sym (undo_wraps_then quarter_stage core_mirrored_stage v) ∙ ap (λ p. undo_wraps p v) core_stages_lem
