-- The first rows are laid over the front of the bytes, up to `at`.
use Rattle.std.proofs.Common.{◌≡◌, ◌*◌, ◌≤◌, length}
use Rattle.decimal.specs.Text.{over}
use Rattle.decode.specs.Shown.{rows}
use Rattle.decode.proofs.text.write_rows.Given as goal

abbrev pub invariant-loop-y : goal.invariant-loop-y
invariant-loop-y l = record {
  size : l.at ≡ length (rows l.y l.w l.numbers);
  most : l.at ≤ 12 * (l.y * l.w);
  laid : l.out ≡ over l.initial.out 0 (rows l.y l.w l.numbers);
}
