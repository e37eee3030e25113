-- One lane's four after another.
use mathlib.Core.Path.{refl}
use Rattle.lanes.proofs.Beside.{held}
use Rattle.lanes.proofs.row.Goals as goal

pub returns : goal.returns
returns c =
    held _ _ _ _ _ _ _ _ c.get_four.result c.get_four-2.result c.get_four-3.result c.get_four-4.result refl
    c.get_four.ensures c.put_four.ensures c.get_four-2.ensures c.put_four-2.ensures
    c.get_four-3.ensures c.put_four-3.ensures c.get_four-4.ensures c.put_four-4.ensures
