-- Each field of `one_set`, cited at every size; two sets with one picture are both what forward finds.
use Prim.Native.Nat.{ℕ, ◌*◌}
use mathlib.Core.Path.{refl, sym, ap₂, ◌∙◌}
use Rattle.lifting.specs.Program.{run}
use Rattle.picture.specs.Modes.{mode_of}
use Rattle.picture.specs.Planes.{Planes, PlanesOf as Rows}
use Rattle.transform.specs.Grids.{second_grid}
use Rattle.transform.specs.Transform.{level_two, inverse_by}
use Rattle.transform.proofs.OnePlanes.{row-inverse}
use Rattle.transform.proofs.WholePictures.{whole_pictures}
use Rattle.corollaries.specs.Sizes.{of}
use Rattle.corollaries.specs.Planes.{PlanesOf, ForwardGivesPlanes, InverseUndoesForward, NoOtherPlanes, OnePictureOnePlanes, ThroughTheQuarterView}
use Rattle.corollaries.proofs.Sizes.{shape, row, numbers}

pub rows : {W H : ℕ} {s : Planes} → PlanesOf (W * H) s → Rows (of W H) s
rows p = record { dc = row p.dc; low = row p.low; high = row p.high }

planes-of : {W H : ℕ} {s : Planes} → Rows (of W H) s → PlanesOf (W * H) s
planes-of p = record { dc = numbers p.dc; low = numbers p.low; high = numbers p.high }

pub forward-gives-planes : ForwardGivesPlanes
forward-gives-planes mode W H m a b c d samples n = planes-of ((whole_pictures mode (of W H) (shape m a b c d)).one_set samples (row n)).planes

pub inverse-undoes-forward : InverseUndoesForward
inverse-undoes-forward mode W H m a b c d samples n = ((whole_pictures mode (of W H) (shape m a b c d)).one_set samples (row n)).gives

pub no_other_planes : NoOtherPlanes
no_other_planes mode W H m a b c d samples n s p e = ((whole_pictures mode (of W H) (shape m a b c d)).one_set samples (row n)).only s (rows p) e

pub one_picture_one_planes : OnePictureOnePlanes
one_picture_one_planes mode W H m a b c d s t p q e =
    let n = numbers (row-inverse (mode_of mode) (of W H) (shape m a b c d).sized (rows q)) in
    no_other_planes mode W H m a b c d _ n s p e ∙ sym (no_other_planes mode W H m a b c d _ n t q refl)

pub through_the_quarter_view : ThroughTheQuarterView
unfolding inverse_by
through_the_quarter_view mode W H s t e h = ap₂ (λ view high. run (level_two (mode_of mode) (of W H)) (second_grid W H view high)) e h
