-- In row 0 the DC number and three low-pass numbers after it, in the others four low-pass numbers.
use Prim.Native.Nat.{◌+◌, ◌-◌, ◌*◌}
use mathlib.Core.Path.{◌≡◌, refl}
use native.Mathlib.Omega.{arith}
use Rattle.lifting.specs.Program.{at}
use Rattle.lifting.proofs.Bits.{back}
use Rattle.forward_kernel.proofs.Stores.{placed_none, placed_next, four_placed}
use Rattle.forward_two_cores.proofs.Stores.{zeros-first, zeros_next}
use Rattle.forward_two_cores.proofs.put_zeros.Goals as goal

pub returns-then-k-eq0 : goal.returns-then-k-eq0
returns-then-k-eq0 c =
    let d = c in
    let s = d in
    let a = s.args in
    let first : a.k ≡ 0 = omega arith in
    let p = placed_next a.cells.low 2 (λ j. at a.z (j + 1)) (a.cells.low + 2) refl (omega (arith, s.requires.1)) (back c.low-then-k-eq0-2-1.given)
    (placed_next a.cells.low 1 _ (a.cells.low + 1) refl (omega (arith, s.requires.1)) (back c.low-then-k-eq0-1.given)
    (placed_next a.cells.low 0 _ a.cells.low (omega arith) (omega (arith, s.requires.1)) (back c.low-1.given) (placed_none a.cells.low _ a.low.now))) in
    rw first (zeros-first a.cells.dc a.z a.dc.now a.low.now s.requires.0 a.cells.of_one.0 (back d.dc-1.given) p)

pub returns : goal.returns
returns c =
    let p = c in
    let s = p in
    let a = s.args in
    zeros_next a.cells.dc a.k a.z a.dc.now a.low.now a.cells.of_one.0 (omega arith) s.requires.2 (four_placed (a.cells.low + (4 * a.k - 1)) a.z a.low.now (omega (arith, s.requires)) p.put_four.ensures)
