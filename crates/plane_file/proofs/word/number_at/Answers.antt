-- Below 2^32 a word's signed number is what it wraps to.
use Rattle.std.proofs.Common.{sym, ap, pos, ◌∙◌}
use Rattle.lifting.specs.Wrap.{wrap}
use Rattle.lifting.proofs.Bits.{back}
use Rattle.plane_file.proofs.Signs.{wrap-word}
use Rattle.plane_file.proofs.word.number_at.Goals as goal

pub returns : goal.returns
returns c =
    back c.cast_signed.type_inv ∙ c.cast_signed.ensures ∙ sym (wrap-word c.word_at.result c.word_at.type_inv) ∙ ap (λ x. wrap (pos x)) c.word_at.ensures
