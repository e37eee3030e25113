-- After i turns the first i cells have their products, reduced, the rest are as they were, and it is known whether a product was outside.
use mathlib.Core.Path.{refl, sym, ◌∙◌, ap}
use mathlib.Core.List.{map-map}
use native.Mathlib.Omega.{arith}
use Rattle.lifting.specs.Program.{at}
use Rattle.lifting.specs.Wrap.{wrap}
use Rattle.lifting.proofs.Bits.{back}
use Rattle.transform.proofs.UpTo.{up_to_none, up_to_more, up_to_next, up_to_mapped}
use Rattle.step_sizes.specs.Steps.{step_of}
use Rattle.step_sizes.specs.Levels.{quantised, restored}
use Rattle.bands.specs.Bands.{any_out}
use Rattle.bands.proofs.Range.{one_looked, all_looked, products_kept}
use Rattle.bands.proofs.in_place.round_plane.Invariants.{product}
use Rattle.bands.proofs.in_place.round_plane.Goals as goal

pub loop-x-init : goal.loop-x-init
loop-x-init c = (up_to_none _ _, refl)

pub loop-x-preserved : goal.loop-x-preserved
loop-x-preserved c =
    let i = c.loop-x.x-index in
    let was = c.args.plane.now in
    let same = up_to_next c.loop-x.invariant.0 (omega arith) in
    let x = back {x = at c.loop-x.plane i} (omega arith) in
    let found = (rw (x, same) at c.exclude-out.ensures) ∙ (rw (c.divisor_of-by.ensures, same) at (c.round_limits-limits.ensures.outside (at c.loop-x.plane i) (record { sfits = omega arith }))) in
    let put = back c.round_number.type_inv ∙ (rw (c.divisor_of-by.ensures, x, same) at c.round_number.ensures) in
    (up_to_more c.loop-x.invariant.0 (omega arith) put, one_looked (product c.args.index) was i (omega arith) c.loop-x.invariant.1 found)

pub returns : goal.returns
returns c =
    let index = c.args.index in
    let was = c.args.plane.now in
    let both = map-map (restored (step_of index)) (quantised (step_of index)) was in
    let told = all_looked (product index) was c.loop-x.x-index (omega arith) c.loop-x.invariant.1 in record {
      value = told ∙ ap any_out (sym both);
      plane_after = λ none. up_to_mapped (λ x. wrap (product index x)) was c.loop-x.invariant.0 refl (omega arith) ∙ products_kept (product index) was (sym told ∙ none) ∙ sym both;
    }
