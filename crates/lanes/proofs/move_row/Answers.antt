-- Four numbers more at each call.
use mathlib.Core.Path.{refl}
use native.Mathlib.Omega.{arith}
use Rattle.lanes.proofs.Rows.{moved_none, moved_more}
use Rattle.lanes.proofs.move_row.Goals as goal

pub returns : goal.returns
returns c =
    let a = c.args in
    let room = c.requires.to_in_bounds in
    let m1 = moved_more c.get_four.result a.from 0 a.to a.to a.from (omega arith) (omega arith) (omega arith) c.get_four.ensures c.put_four.ensures (moved_none _ _ a.out.now _) in
    let m2 = moved_more c.get_four-2.result a.from 4 a.to _ _ refl refl (omega (arith, m1.len)) c.get_four-2.ensures c.put_four-2.ensures m1 in
    let m3 = moved_more c.get_four-3.result a.from 8 a.to _ _ refl refl (omega (arith, m2.len)) c.get_four-3.ensures c.put_four-3.ensures m2 in
    moved_more c.get_four-4.result a.from 12 a.to _ _ refl refl (omega (arith, m3.len)) c.get_four-4.ensures c.put_four-4.ensures m3
