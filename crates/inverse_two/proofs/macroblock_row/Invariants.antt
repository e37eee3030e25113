-- What the loop keeps.
use Prim.Native.Nat.{◌+◌, ◌*◌, ◌≤◌}
use mathlib.Core.Path.{◌≡◌}
use mathlib.Core.Bool.{false}
use Rattle.large_numbers.specs.Small.{Small}
use Rattle.inverse_two.specs.Blocks.{BlocksCored}
use Rattle.inverse_two.proofs.macroblock_row.Given as goal

abbrev pub invariant-loop-c : goal.invariant-loop-c
invariant-loop-c l =
    let W = l.fn.size.width.0 in
    (l.c ≤ W) × BlocksCored W l.high l.initial.samples (4 * l.r) (4 * l.r + 4) l.c W l.samples × (l.large ≡ false → Small l.high (l.fn.cells.high + 240 * l.c) (l.fn.cells.high + 240 * W))
