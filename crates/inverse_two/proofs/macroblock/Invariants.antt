-- What the loop keeps. The places are those of row k of the blocks.
use Prim.Native.Nat.{◌+◌, ◌*◌}
use mathlib.Core.Path.{◌≡◌}
use mathlib.Core.Bool.{false}
use Rattle.large_numbers.specs.Small.{Small}
use Rattle.inverse_two.specs.Blocks.{BlocksCored}
use Rattle.inverse_two.proofs.macroblock.Given as goal

abbrev pub invariant-loop-k : goal.invariant-loop-k
invariant-loop-k l =
    let W = l.fn.size.width.0 in
    let begin = l.fn.cells in
    (l.row.samples ≡ begin.samples + l.k * (64 * W)) × (l.row.numbers ≡ begin.numbers + l.k * (4 * W)) × (l.row.high ≡ begin.high + 60 * l.k)
    × BlocksCored W l.high l.initial.samples (4 * l.r + l.k) (4 * l.r + 4) l.c (l.c + 1) l.samples × (l.large ≡ false → Small l.high l.row.high (begin.high + 240))
