-- What the loop keeps. The places are those of row y of the blocks.
use Prim.Native.Nat.{ℕ, ◌+◌, ◌*◌, ◌≤◌, ◌<◌}
use mathlib.Core.Path.{◌≡◌}
use mathlib.Core.Bool.{false}
use Rattle.large_numbers.specs.Small.{Small}
use Rattle.inverse_two.specs.Blocks.{BlocksCored}
use Rattle.inverse_two.proofs.top_row.Given as goal

abbrev pub invariant-loop-y : goal.invariant-loop-y
invariant-loop-y l =
    let W = l.fn.size.width.0 in
    (l.cells.samples ≡ l.y * (64 * W)) × (l.cells.numbers ≡ l.y * (4 * W)) × (l.cells.high ≡ 60 * l.y) × BlocksCored W l.high l.initial.samples l.y 4 0 W l.samples
    × (l.large ≡ false → (j c : ℕ) → l.y ≤ j → j < 4 → c < W → Small l.high (60 * j + 240 * c) (60 * j + 240 * c + 60))
