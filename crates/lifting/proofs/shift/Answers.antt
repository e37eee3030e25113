-- What `>>` gives fits 32 bits, so the local that holds it is read back as it was.
use Prim.Native.Nat.{◌^◌}
use Rattle.lifting.proofs.Bits.{shr_back}
use Rattle.lifting.proofs.shift.Goals as goal

pub returns : goal.returns
returns c = shr_back c.args.a (2 ^ c.args.k) c.ranges.a
