-- The stages of Figure 4.14 as programs, run and undone: its first and last from what is known of each four, and the three one after the other.
-- Of each: what it leaves, and whether a reduction changes a number.
use mathlib.Core.Path.{◌≡◌, refl, sym, ◌∙◌, ap}
use mathlib.Core.Bool.{true, ◌||◌, or_assoc}
use mathlib.Core.List.{List}
use lib.IntN.{ℤ, pos}
use Rattle.lifting.specs.Program.{Program, Operator, Hadamard, PostHadamard, run, undo, get, put, ◌then◌}
use Rattle.lifting.specs.Wraps.{wraps, undo_wraps}
use Rattle.lifting.proofs.Compose.{run_then, undo_then}
use Rattle.lifting.proofs.NoWrap.{wraps_then, undo_wraps_then}
use Rattle.lifting.proofs.Traces.{◌▸◌, at-end, ran, ◌◂◌, at_start, undone}
use Rattle.figures.specs.Figures.{hadamard, post_hadamard, square_filter}
use Rattle.figures.specs.Pieces.{mirrored_stage, crossed_stage}
use Rattle.figures.proofs.Figures.{square_filter_stages}
use Rattle.blocks.specs.declared.Quads.{Quads}
use Rattle.blocks.specs.Quads.{mirrored, OnEach, on_any}
use Rattle.blocks.proofs.Blocks.{some_back}

pub mirrored-run : (o : Operator) (s : Program) (v w : Quads) → OnEach (run s) v w
    → (mirrored w ≡ run (mirrored_stage o s) (mirrored v)) × (on_any (wraps s) v ≡ wraps (mirrored_stage o s) (mirrored v))
unfolding get put mirrored mirrored_stage
mirrored-run o s v w e =
    let u = ran true (mirrored_stage o s) _ refl (record { done = e.p; told = refl } ▸ record { done = e.q; told = refl } ▸ record { done = e.r; told = refl } ▸ record { done = e.s; told = refl } ▸ at-end) in
    (u.done, u.told)

pub mirrored-undo : (o : Operator) (s : Program) (v w : Quads) → OnEach (undo s) v w
    → (mirrored w ≡ undo (mirrored_stage o s) (mirrored v)) × (on_any (undo_wraps s) v ≡ undo_wraps (mirrored_stage o s) (mirrored v))
unfolding get put mirrored mirrored_stage
mirrored-undo o s v w e =
    let u = undone true (mirrored_stage o s) _ refl (at_start ◂ record { done = e.s; told = refl } ◂ record { done = e.r; told = refl } ◂ record { done = e.q; told = refl } ◂ record { done = e.p; told = refl }) in
    (u.done, some_back (undo_wraps s) (undo_wraps s) (undo_wraps s) (undo_wraps s) v ∙ u.told)

abbrev pub first : Program
first = mirrored_stage Hadamard (hadamard (pos 0))

abbrev pub last : Program
last = mirrored_stage PostHadamard post_hadamard

pub stages_run : (v : List ℤ) → run last (run crossed_stage (run first v)) ≡ run square_filter v
stages_run v = sym (run_then crossed_stage last (run first v)) ∙ sym (run_then first (crossed_stage then last) v) ∙ ap (λ p. run p v) square_filter_stages

pub stages_undo : (v : List ℤ) → undo first (undo crossed_stage (undo last v)) ≡ undo square_filter v
stages_undo v = ap (undo first) (sym (undo_then crossed_stage last v)) ∙ sym (undo_then first (crossed_stage then last) v) ∙ ap (λ p. undo p v) square_filter_stages

pub stages_wrap : (v : List ℤ) → wraps first v || wraps crossed_stage (run first v) || wraps last (run crossed_stage (run first v)) ≡ wraps square_filter v
stages_wrap v =
    or_assoc (wraps first v) _ _
    ∙ ap (λ b. wraps first v || b) (sym (wraps_then crossed_stage last (run first v)))
    ∙ sym (wraps_then first (crossed_stage then last) v)
    ∙ ap (λ p. wraps p v) square_filter_stages

pub undo_stages_wrap : (v : List ℤ) → undo_wraps last v || undo_wraps crossed_stage (undo last v) || undo_wraps first (undo crossed_stage (undo last v)) ≡ undo_wraps square_filter v
undo_stages_wrap v =
    ap (λ u. undo_wraps last v || undo_wraps crossed_stage (undo last v) || undo_wraps first u) (sym (undo_then crossed_stage last v))
    ∙ ap (λ b. b || undo_wraps first (undo (crossed_stage then last) v)) (sym (undo_wraps_then crossed_stage last v))
    ∙ sym (undo_wraps_then first (crossed_stage then last) v)
    ∙ ap (λ p. undo_wraps p v) square_filter_stages
