-- The magnitudes end a little below the ends of the range, and a coefficient beyond them has a product outside.
use Prim.Native.Nat.{ℕ, zero, suc, ◌-◌, ◌≤◌, ◌<◌}
use mathlib.Core.Path.{◌≡◌, refl, ap}
use native.Mathlib.Omega.{arith}
use native.Mathlib.Nat.{mod-lt}
use borrow.Author.Tests.{lt-ltb, le-ltb}
use lib.IntN.{pos, negsuc, neg_ℤ, ◌+ℤ◌, ◌-ℤ◌}
use mir.Syntax.{w32}
use mir.Facts.{to_z_pos}
use mir.ValLaws.{to_z-of_z}
use Rattle.step_sizes.specs.Steps.{largest_step}
use Rattle.step_sizes.proofs.Signs.{negative_fits, top, outside_rounded}
use Rattle.step_sizes.proofs.nearest.round_limits.Goals as goal
use Rattle.step_sizes.proofs.nearest.round_limits.Goals.{After-excess-above, Start}

-- the ends of the range, and magnitudes a little below theirs
lower : (e : ℕ) → e < 2147483648 → negsuc 2147483647 +ℤ pos e ≡ neg_ℤ (pos (2147483648 - e))
lower e h = let k : 2147483648 - e ≡ suc (2147483647 - e) = omega arith in rw (lt-ltb e 2147483648 h, k) (ap negsuc (omega arith))

upper : (e : ℕ) → e ≤ 2147483647 → pos 2147483647 -ℤ pos e ≡ pos (2147483647 - e)
upper zero h = refl
upper (suc e) h = rw (le-ltb 2147483647 (suc e) h)

known : (c : Start) → (0 < c.args.step) × (c.args.step ≤ largest_step)
known c = (omega (arith, c.well_formed), omega (arith, c.well_formed))

small : (c : After-excess-above) → (c.before.excess-below.result < 2147483648) × (c.excess-above.result ≤ 2147483647)
small c =
    let k = known c.before.before in (
      omega (arith, c.before.excess-below.ensures, mod-lt 2147483648 k.0, k.1),
      omega (arith, c.excess-above.ensures, mod-lt 2147483647 k.0, k.1),
    )

pub returns : goal.returns
returns c =
    let s = c.before.before in
    let step = s.args.step in
    let below = c.before.excess-below in
    let above = c.excess-above in record {
      outside = λ x f. rw (
        to_z_pos w32 {n = below.result} (omega (arith, (small c).0)),
        lower below.result (small c).0,
        below.ensures,
        to_z-of_z w32 (neg_ℤ (pos (top 2147483648 step))) (negative_fits (top 2147483648 step) (omega arith)),
        to_z_pos w32 {n = above.result} (omega (arith, (small c).1)),
        upper above.result (small c).1,
        to_z_pos w32 {n = 2147483647 - above.result} (omega arith),
        above.ensures,
      ) (outside_rounded step (known s).0 x f);
    }
