-- One row more in each turn.
use Rattle.std.proofs.Common.{refl, arith}
use Rattle.decimal.specs.Text.{over}
use Rattle.decode.specs.Shown.{rows}
use Rattle.decode.proofs.Lines.{next_size, next_laid}
use Rattle.decode.proofs.text.write_rows.Goals as goal

pub loop-y-init : goal.loop-y-init
unfolding rows over
loop-y-init c = record { size = refl; most = omega arith; laid = refl }

pub loop-y-preserved : goal.loop-y-preserved
loop-y-preserved c =
    let a = c.args in
    let i = c.loop-y.invariant in
    let e = c.write_line-at.ensures in
    record {
      size = next_size a.numbers.now a.out.now c.loop-y.out a.w c.loop-y.y i.size e.value.0;
      most = omega (arith, i.most, e.value.1);
      laid = next_laid a.numbers.now a.out.now c.loop-y.out a.w c.loop-y.y i.size i.laid e.out_after;
    }
