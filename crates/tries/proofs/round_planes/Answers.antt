-- The first band with a product outside settles it; where none has one, each plane has its products.
use mathlib.Core.Path.{◌≡◌, sym, ◌∙◌}
use mathlib.Core.Bool.{Bool, true, false}
use Rattle.picture.specs.Planes.{Planes, planes}
use Rattle.bands.specs.Bands.{any_out}
use Rattle.bands.proofs.Bands.{by_plane}
use Rattle.quantise.specs.Quantise.{quantised_planes}
use Rattle.restore.specs.Restore.{restored_planes, any_out_of}
use Rattle.tries.specs.Tries.{all_bands}
use Rattle.differences.proofs.Differences.{not_yes}
use Rattle.tries.proofs.round_planes.Goals as goal
use Rattle.tries.proofs.round_planes.Goals.{Start}

-- the products of the planes that came
abbrev products : Start → Planes
products s = let i = all_bands s.args.index in restored_planes i (quantised_planes i (planes s.args.dc.now s.args.low.now s.args.high.now))

out_dc : (s : Planes) → any_out s.dc ≡ true → true ≡ any_out_of s
out_dc s e = rw e

out_low : (s : Planes) → any_out s.dc ≡ false → any_out s.low ≡ true → true ≡ any_out_of s
out_low s e f = rw (e, f)

out_high : (s : Planes) {r : Bool} → any_out s.dc ≡ false → any_out s.low ≡ false → r ≡ any_out s.high → r ≡ any_out_of s
out_high s e f g = rw (e, f) g

pub returns-then-round_plane : goal.returns-then-round_plane
unfolding restored_planes quantised_planes
returns-then-round_plane c = let dc = c.before.before in record {
  value = out_dc (products dc.before.before) (sym dc.round_plane.ensures.value ∙ c.if-round_plane.true);
  high_after = λ e. absurd (not_yes e);
}

pub returns-then-round_plane-2 : goal.returns-then-round_plane-2
unfolding restored_planes quantised_planes
returns-then-round_plane-2 c =
    let low = c.before.before in
    let e = low.before.before in
    let dc = e.before.before in
    record {
      value = out_low (products dc.before.before) (sym dc.round_plane.ensures.value ∙ e.if-round_plane.false) (sym low.round_plane-2.ensures.value ∙ c.if-round_plane-2.true);
      high_after = λ e. absurd (not_yes e);
    }

pub returns : goal.returns
unfolding restored_planes quantised_planes
returns c =
    let high = c.before in
    let f = high.before.before in
    let low = f.before.before in
    let e = low.before.before in
    let dc = e.before.before in record {
      value = out_high (products dc.before.before) (sym dc.round_plane.ensures.value ∙ e.if-round_plane.false) (sym low.round_plane-2.ensures.value ∙ f.if-round_plane-2.false) high.round_plane-3.ensures.value;
      high_after = λ none. by_plane (dc.round_plane.ensures.plane_after e.if-round_plane.false) (low.round_plane-2.ensures.plane_after f.if-round_plane-2.false) (high.round_plane-3.ensures.plane_after none);
    }
