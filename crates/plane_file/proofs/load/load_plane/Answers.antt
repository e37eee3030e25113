-- All numbers are read.
use Rattle.std.proofs.Common.{sym, arith}
use Rattle.picture.proofs.Table.{table_is}
use Rattle.plane_file.specs.Words.{numbers_at}
use Rattle.plane_file.proofs.load.load_plane.Goals as goal

pub returns : goal.returns
unfolding numbers_at
returns c = sym (table_is _ _ c.loop-i.plane c.loop-i.auto.plane (λ k h. sym (c.loop-i.invariant k (omega arith))))
