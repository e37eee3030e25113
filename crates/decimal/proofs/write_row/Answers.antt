-- The loop writes one number more in each turn, and the space behind it where another follows.
use Rattle.std.proofs.Common.{pos, sym, ◌∙◌, ap, length, get_or, arith, rules}
use borrow.Author.Tests.{leb-true, leb-false}
use Rattle.decimal.proofs.Digits.{decimal_text}
use Rattle.decimal.proofs.Room.{count_fits, count_none, written-fits, written_none}
use Rattle.decimal.proofs.Progress.{start, left, last, on, room_at, newline, whole}
use Rattle.decimal.proofs.write_row.Goals as goal
use Rattle.decimal.proofs.write_row.Goals.{then-i-numbers, else-i-numbers}

pub returns-then-not-row_fits-clause-value : goal.returns-then-not-row_fits-clause-value
returns-then-not-row_fits-clause-value c = sym (count_none _ _ (leb-false _ _ (sym c.row_fits.ensures ∙ c.if-not-row_fits.true)))

pub returns-then-not-row_fits-clause-out_after : goal.returns-then-not-row_fits-clause-out_after
returns-then-not-row_fits-clause-out_after c = sym (written_none _ _ (leb-false _ _ (sym c.row_fits.ensures ∙ c.if-not-row_fits.true)))

pub loop-i-init : goal.loop-i-init
loop-i-init c = start _ _

pub write_number-at-requires : goal.write_number-at-requires
write_number-at-requires c =
    let f = leb-true _ _ (sym c.row_fits.ensures ∙ c.if-not-row_fits.false) in
    let e = decimal_text (get_or c.args.numbers.now c.loop-i.i (pos 0)) (search rules) in
    rw e (omega (arith, f, room_at c.args.numbers.now c.loop-i.invariant (omega arith)))

pub write_bytes-at-requires : goal.write_bytes-at-requires
write_bytes-at-requires c =
    let f = leb-true _ _ (sym c.row_fits.ensures ∙ c.if-not-row_fits.false) in
    let e = decimal_text (get_or c.args.numbers.now c.loop-i.i (pos 0)) (search rules) in
    omega (arith, f, rw e at c.write_number-at.ensures.value, room_at c.args.numbers.now c.loop-i.invariant (omega arith))

pub loop-i-preserved : goal.loop-i-preserved
loop-i-preserved c =
    let xs = c.args.numbers.now in
    let e = decimal_text (get_or xs c.loop-i.i (pos 0)) (search rules) in
    let laid = rw e at c.write_number-at.ensures.out_after in
    let size = rw e at c.write_number-at.ensures.value in
    elim c.if-i-numbers.branch [
      | then-i-numbers w ↦
          let f = leb-true _ _ (sym c.row_fits.ensures ∙ c.if-not-row_fits.false) in
          rw (w.out-is, w.at-is) (on xs c.loop-i.invariant laid size (omega arith) (omega (arith, f, left xs c.loop-i.invariant)) w.write_bytes-at.ensures.out_after w.write_bytes-at.ensures.value)
      | else-i-numbers w ↦ rw (w.out-is, w.at-is) (last xs c.loop-i.invariant laid size (omega arith) (omega arith))
    ]

pub write_bytes-requires : goal.write_bytes-requires
write_bytes-requires c =
    let f = leb-true _ _ (sym c.row_fits.ensures ∙ c.if-not-row_fits.false) in
    omega (arith, f, left c.args.numbers.now c.loop-i.invariant, ap length (newline c.args.numbers.now c.loop-i.invariant (omega arith)))

pub returns-clause-value : goal.returns-clause-value
returns-clause-value c =
    let xs = c.args.numbers.now in
    let f = leb-true _ _ (sym c.row_fits.ensures ∙ c.if-not-row_fits.false) in
    rw (count_fits _ _ f) (omega (arith, left xs c.loop-i.invariant, ap length (newline xs c.loop-i.invariant (omega arith))))

pub returns-clause-out_after : goal.returns-clause-out_after
returns-clause-out_after c =
    let f = leb-true _ _ (sym c.row_fits.ensures ∙ c.if-not-row_fits.false) in
    rw (written-fits _ _ f) (whole c.args.numbers.now c.loop-i.invariant (omega arith) c.write_bytes.ensures.out_after)
