-- Block after block.
use Prim.Native.Nat.{◌+◌, ◌*◌, ◌<◌}
use mathlib.Core.Path.{◌≡◌, sym, ◌∙◌, ap}
use mathlib.Core.List.{[], ◌∷◌}
use native.Mathlib.Omega.{arith}
use Rattle.lifting.specs.Program.{at}
use Rattle.lifting.proofs.Bits.{back}
use Rattle.figures.proofs.Parts.{kept}
use Rattle.forward_kernel.proofs.Stores.{at_block, below-four}
use Rattle.forward_kernel.specs.Placed.{block_in}
use Rattle.forward_two_cores.specs.Blocks.{block_of}
use Rattle.forward_two_edges.proofs.Strips.{kept_as, kept_then}
use Rattle.forward_two_parked.proofs.Numbers.{block-of, blocks_fetched}
use Rattle.forward_two_parked.proofs.fetch_macroblock.Goals as goal

pub loop-k-preserved : goal.loop-k-preserved
loop-k-preserved c =
    let d = c in
    let read = d in
    let l = read in
    let t4 = l in
    let t3 = t4 in
    let t2 = t3 in
    let t1 = t2 in
    let s = t1 in
    let a = s.args in
    let v = l.loop-k.invariant in
    let e = d.fetch_block.ensures in
    let k = l.loop-k.k in
    let few : k < 4 = omega (arith, read.loop-k-test) in
    let dc = s.planes.inside.dc.now in
    let low = s.planes.inside.low.now in
    let high = s.planes.inside.high.now in
    let m = a.cells.dc in
    let from = a.cells.low in
    let zeros = kept (at dc m) ∷ kept (at low from) ∷ kept (at low (from + 1)) ∷ kept (at low (from + 2)) ∷ [] in
    let part : from ≡ 15 * m = a.cells.of_one.0 in
    let first : at zeros k ≡ at (block_in dc low m) k =
    below-four (λ i. at zeros i ≡ at (block_in dc low m) i) (back t1.zeros-1.given ∙ sym (at_block dc low m 0 (omega arith))) (back t2.zeros-2-1.given ∙ ap (at low) (omega (arith, part)) ∙ sym (at_block dc low m 1 (omega arith)))
    (back t3.zeros-3-1.given ∙ ap (at low) (omega (arith, part)) ∙ sym (at_block dc low m 2 (omega arith))) (back t4.zeros-4-1.given ∙ ap (at low) (omega (arith, part)) ∙ sym (at_block dc low m 3 (omega arith))) k few in rw (← s.planes.view_is) (
      omega (arith, few),
      blocks_fetched (block_of dc low high) m a.b k s.requires.b_bound few (λ j h. e.by_index j h ∙ block-of dc low high m a.cells.high k j (kept (at zeros k)) a.cells.of_one.1 (omega (arith, few)) (omega arith) (back read.fetch_block-arg-1.given ∙ first)) e.kept (rw (← s.planes.view_is) at v.1),
      kept_then v.2 (kept_as 0 2 (16 * a.b) (16 * a.b + 16) (omega arith) (omega arith) (omega arith) (omega (arith, few)) e.kept),
    )
