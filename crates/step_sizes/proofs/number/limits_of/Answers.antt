-- The quotients of the range's two ends fit 32 bits, and a product is outside where the level is beyond one of them.
use Prim.Native.Nat.{◌/◌}
use mathlib.Core.Path.{◌≡◌, ◌∙◌}
use native.Mathlib.Omega.{arith}
use native.Mathlib.Nat.{div-le_self}
use lib.IntN.{pos, neg_ℤ}
use mir.Syntax.{w32}
use mir.Facts.{to_z_pos}
use Rattle.lifting.proofs.Bits.{back}
use Rattle.lifting.proofs.WrapLaws.{wrap_id}
use Rattle.step_sizes.proofs.Signs.{negative_fits, outside_limits}
use Rattle.step_sizes.proofs.number.limits_of.Goals as goal

pub returns : goal.returns
returns c =
    let step = c.args.step in
    let q = 2147483648 / step in
    let least : c.with_sign.result ≡ neg_ℤ (pos q) = c.with_sign.ensures ∙ wrap_id (negative_fits q (div-le_self 2147483648 step)) in
    record {
      outside = λ level. rw (back c.with_sign.type_inv, least, to_z_pos w32 {n = 2147483647 / step} (omega (arith, div-le_self 2147483647 step)))
          (outside_limits step c.requires level);
    }
