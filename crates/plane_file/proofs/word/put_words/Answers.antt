-- One number more is written in each turn.
use Rattle.std.proofs.Common.{map, ap, ◌∙◌, sym, arith}
use Rattle.std.proofs.lemmas.List.{get_or-map, length-map}
use Rattle.plane_file.proofs.Parts.{none_written, one_written, all-written}
use Rattle.plane_file.proofs.word.put_words.Goals as goal

pub loop-i-init : goal.loop-i-init
loop-i-init g c = none_written (map g.W.Word.as_word c.args.numbers.now) c.args.bytes.now c.args.at

pub loop-i-preserved : goal.loop-i-preserved
loop-i-preserved g c =
    let f = g.W.Word.as_word in
    let xs = c.args.numbers.now in
    let i = c.loop-i.i in
    let long = length-map xs f in
    one_written (map f xs) c.args.bytes.now c.args.at i c.as_word.result (omega (arith, long)) (omega (arith, long)) c.loop-i.invariant
    (c.as_word.ensures ∙ sym (get_or-map f xs i c.index-numbers-i.result 0 (omega arith) ∙ ap f (sym c.index-numbers-i.is))) c.put_word.ensures

pub returns : goal.returns
returns g c =
    let f = g.W.Word.as_word in
    let xs = c.args.numbers.now in
    let long = length-map xs f in
    rw (← long) (all-written (map f xs) c.args.bytes.now c.args.at c.loop-i.i (omega (arith, long)) c.loop-i.invariant)
