-- The claims about wrapping, cited at every size; and each level that tells no is exact, so that two of them are.
use mathlib.Core.Path.{ap, ap₂, ◌∙◌}
use mathlib.Core.List.{List}
use lib.IntN.{ℤ}
use Rattle.lifting.specs.Wraps.{Within, exact_run, exact_undo}
use Rattle.lifting.proofs.NoWrap.{run_exact, undo_exact}
use Rattle.picture.specs.Modes.{mode_of}
use Rattle.picture.specs.Planes.{planes}
use Rattle.transform.specs.Grids.{second_grid, dc_of, low_of, view_of, high_of}
use Rattle.transform.specs.Transform.{level_one, level_two, quarter_by, inverse_by, second_undone, first_undone, forward_by}
use Rattle.transform.specs.Wraps.{quarter_wraps_by, inverse_wraps_by, forward_wraps_by}
use Rattle.picture.proofs.CheckLaws.{either_false}
use Rattle.transform.proofs.NoWrap.{inverse_does_not_wrap, forward_does_not_wrap}
use Rattle.transform.proofs.BothWays.{wraps_both_ways}
use Rattle.corollaries.specs.Sizes.{of}
use Rattle.corollaries.specs.Wraps.{Small, SmallPlanesDoNotWrap, SmallSamplesDoNotWrap, BothTellTheSame, ToldNoIsExact}
use Rattle.corollaries.proofs.Sizes.{shape}
use Rattle.corollaries.proofs.Planes.{rows}

within : {v : List ℤ} → Small v → Within 4194304 v
within h = record { within = h }

pub small_planes_do_not_wrap : SmallPlanesDoNotWrap
unfolding inverse_wraps_by
small_planes_do_not_wrap mode W H m a b c d s dc low high =
    let e = inverse_does_not_wrap mode (of W H) (shape m a b c d) s (record { dc = within dc; low = within low; high = within high }) in
    (e, (either_false _ _ e).0)

pub small_samples_do_not_wrap : SmallSamplesDoNotWrap
small_samples_do_not_wrap mode W H m a b c d samples h = forward_does_not_wrap mode (of W H) (shape m a b c d) samples (within h)

pub both_tell_the_same : BothTellTheSame
both_tell_the_same mode W H m a b c d s p = wraps_both_ways mode (of W H) (shape m a b c d) s (rows p)

pub told_no_is_exact : ToldNoIsExact
unfolding quarter_by inverse_by second_undone first_undone forward_by quarter_wraps_by inverse_wraps_by forward_wraps_by
told_no_is_exact mode W H = (
  λ s e.
      let (one, two) = either_false _ _ e in
      run_exact (level_two (mode_of mode) (of W H)) _ two
      ∙ ap (λ view. exact_run (level_two (mode_of mode) (of W H)) (second_grid W H view s.high)) (run_exact (level_one (mode_of mode) (of W H)) _ one),
  λ dc low e. run_exact (level_one (mode_of mode) (of W H)) _ e,
  λ samples e.
      let (two, one) = either_false _ _ e in
      let p = undo_exact (level_two (mode_of mode) (of W H)) samples two in
      let q = undo_exact (level_one (mode_of mode) (of W H)) _ one ∙ ap (λ v. exact_undo (level_one (mode_of mode) (of W H)) (view_of W H v)) p in
      ap₂ (λ first second. planes (dc_of W H first) (low_of W H first) (high_of W H second)) q p,
)
