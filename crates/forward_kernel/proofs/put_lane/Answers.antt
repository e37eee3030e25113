-- Four rows of the block to the four rows of its lane.
use mathlib.Core.List.{[], ◌∷◌}
use lib.ListN.{get_or}
use borrow.Author.Rules.{rules}
use Rattle.lifting.specs.Program.{at}
use Rattle.figures.specs.Block.{flat}
use Rattle.figures.proofs.Parts.{kept}
use Rattle.forward_kernel.proofs.Stores.{lane_stored, head-row, second-row, third-row, fourth-row, zero_stored}
use Rattle.forward_kernel.proofs.put_lane.Goals as goal

pub returns : goal.returns
returns c =
    let b = c.args.b in
    let laned = lane_stored c.args.l (flat b) c.args.out.now
    (kept (at (get_or b 0 []) 1) ∷ kept (at (get_or b 0 []) 2) ∷ kept (at (get_or b 0 []) 3) ∷ kept (at (get_or b 1 []) 0) ∷ []) (get_or b 1 []) (get_or b 2 []) (get_or b 3 [])
    c.requires (search rules) (head-row b (search rules) (search rules) (search rules) (search rules)) (second-row b) (third-row b) (fourth-row b)
    c.put_four.ensures c.put_four-2.ensures c.put_four-3.ensures c.put_four-4.ensures in
    record {
      placed = zero_stored b c.args.l c.args.zeros.now (search rules) (search rules);
      in_lane = laned.holds;
      by_index = laned.others;
    }
