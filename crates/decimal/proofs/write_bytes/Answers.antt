-- The part is replaced by the text.
use Rattle.std.proofs.Common.{arith}
use Rattle.decimal.proofs.Overlay.{over_part}
use Rattle.decimal.proofs.write_bytes.Goals as goal

pub returns-clause-out_after : goal.returns-clause-out_after
returns-clause-out_after c = rw c.copy_from_slice.ensures.after (over_part c.args.out.now c.args.text.now c.args.at (omega arith))
