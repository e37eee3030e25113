-- The header and the planes, one behind the other.
use Rattle.std.proofs.Common.{ap, ◌∙◌}
use Rattle.picture.specs.Planes.{planes, Lengths}
use Rattle.picture.specs.Sizes.{macroblocks}
use Rattle.plane_file.specs.Layout.{file}
use Rattle.plane_file.specs.Header.{layout_of}
use Rattle.plane_file.proofs.Written.{file-written}
use Rattle.plane_file.proofs.save.save_file.Goals as goal

pub returns : goal.returns
returns c =
    let a = c.args in
    let p = c.planes.inside in
    let lengths : Lengths (macroblocks a.size) (planes p.dc.now p.low.now p.high.now) = rw c.planes.view_is c.requires.lengths in
    file-written a.mode a.size c.get-size.result (planes p.dc.now p.low.now p.high.now) a.bytes.now lengths c.requires.bytes_len
    (c.new-starts.ensures ∙ ap layout_of c.macroblocks.ensures.value) c.get-size.ensures.value
    c.put_words.ensures c.put_words-2.ensures c.put_words-3.ensures c.put_words-4.ensures
    ∙ ap (file a.mode a.size) c.planes.view_is
