-- Fifteen after fifteen.
use native.Mathlib.Omega.{arith}
use Rattle.forward_kernel.proofs.Stores.{blocks_placed}
use Rattle.forward_kernel.proofs.move_lanes.Goals as goal

pub returns : goal.returns
returns c =
    λ b h.
    blocks_placed b c.args.from (c.move_lane.ensures (b 0) (h 0 (omega arith))) (c.move_lane-2.ensures (b 1) (h 1 (omega arith)))
    (c.move_lane-3.ensures (b 2) (h 2 (omega arith))) (c.move_lane-4.ensures (b 3) (h 3 (omega arith)))
