-- The lane's four of each row, one row after another.
use Rattle.lanes.proofs.Rows.{four-rows}
use Rattle.lanes.proofs.lane.Goals as goal

pub returns : goal.returns
returns c = four-rows _ _ _ _ c.get_four.ensures c.get_four-2.ensures c.get_four-3.ensures c.get_four-4.ensures
