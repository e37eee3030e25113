-- Held in lanes, undone lane by lane, and moved out.
use mathlib.Core.Path.{◌≡◌, ◌∙◌, ap}
use native.Mathlib.Omega.{arith}
use Rattle.lifting.specs.Program.{undo}
use Rattle.figures.specs.Figures.{core}
use Rattle.lanes.specs.Lanes.{lane_of}
use Rattle.lanes.proofs.Rows.{lanes_held}
use Rattle.forward_kernel.proofs.Stores.{zeros_of, lanes_of, lanes_next}
use Rattle.forward_kernel.proofs.undo_four_cores.Goals as goal

pub loop-l-preserved : goal.loop-l-preserved
loop-l-preserved c =
    let v = c.loop-l.invariant in
    let e = c.put_lane.ensures in
    let its = lane_of c.row-a.result c.row-b.result c.row-c.result c.row-d.result in
    (omega arith, omega arith, lanes_next its c.loop-l.l _ (omega arith) (c.undo_core-block.ensures ∙ ap (undo core) {y = its c.loop-l.l} c.lane.ensures) v.2 e.placed e.in_lane e.by_index)

pub returns : goal.returns
returns c =
    let a = c.args in
    let held = lanes_held a.grid.now _ _ _ _ a.w a.at c.row-a.ensures c.row-b.ensures c.row-c.ensures c.row-d.ensures in
    let four : c.loop-l.l ≡ 4 = omega arith in
    let done = rw four at c.loop-l.invariant.2 in
    record {
      by_index = zeros_of a.grid.now a.w a.at _ _ _ held done;
      placed = c.move_lanes.ensures _ (lanes_of a.grid.now a.w a.at _ _ _ held done);
    }
