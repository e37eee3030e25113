-- The word, the digits behind it and the newline behind these.
use Rattle.std.proofs.Common.{◌≡◌, ℕ, ◌+◌, ◌^◌, ◌<◌, sym, ◌∙◌, ap, List, ◌++◌, length, refl, arith, length-append}
use Rattle.std.specs.Fmt as F
use Rattle.decimal.specs.Text.{ascii, digits, refused_line, over}
use Rattle.decimal.proofs.Digits.{digits_are}
use Rattle.decimal.proofs.Overlay.{then_text}
use Rattle.decimal.proofs.Room.{count_fits, count_none, written-fits, written_none}
use Rattle.decimal.proofs.write_refused.Goals as goal

line-length : (k : ℕ) → length (refused_line k) ≡ length (digits k) + 9
unfolding refused_line
line-length k = simp length-append (omega arith)

-- the text of the number is its digits
shown : (k : ℕ) {t : List ℕ} → k < 2 ^ 64 → t ≡ F.decimal k → t ≡ digits k
shown k h e = e ∙ digits_are k h

pub returns-then-out-digits-clause-value : goal.returns-then-out-digits-clause-value
returns-then-out-digits-clause-value c =
    let e = shown c.args.k (omega arith) c.format-digits.ensures.text in
    sym (count_none _ _ (omega (arith, line-length c.args.k, ap length e)))

pub returns-then-out-digits-clause-out_after : goal.returns-then-out-digits-clause-out_after
returns-then-out-digits-clause-out_after c =
    let e = shown c.args.k (omega arith) c.format-digits.ensures.text in
    sym (written_none _ _ (omega (arith, line-length c.args.k, ap length e)))

pub returns-clause-value : goal.returns-clause-value
returns-clause-value c =
    let e = shown c.args.k (omega arith) c.format-digits.ensures.text in
    let l = line-length c.args.k in
    rw (count_fits (refused_line c.args.k) (length c.args.out.now) (omega (arith, ap length e))) (omega (arith, ap length e))

-- the line, once its newline is written
whole : (b o p q : List ℕ) (f k : ℕ) → o ≡ over b 0 (ascii "refused ") → p ≡ over o 8 (digits k) → f ≡ 8 + length (digits k) → q ≡ over p f (ascii "\n") → q ≡ over b 0 (refused_line k)
unfolding refused_line
whole b o p q f k l m e n =
    then_text b p 0 (ascii "refused " ++ digits k) (ascii "\n") (omega arith) (then_text b o 0 (ascii "refused ") (digits k) (omega arith) l refl m) (simp length-append (omega arith)) n

pub returns-clause-out_after : goal.returns-clause-out_after
returns-clause-out_after c =
    let a = c.args in
    let e = shown a.k (omega arith) c.format-digits.ensures.text in
    let l = line-length a.k in
    let w = c.write_bytes-word in
    let d = c.write_bytes-end in
    rw (written-fits (refused_line a.k) a.out.now (omega (arith, ap length e)))
    (whole a.out.now w.new.out d.new.out c.write_bytes.new.out d.result a.k w.ensures.out_after
    (rw (w.ensures.value, c.as_bytes.ensures.value, e) at d.ensures.out_after) (omega (arith, c.as_bytes.ensures.len, ap length e)) c.write_bytes.ensures.out_after)
