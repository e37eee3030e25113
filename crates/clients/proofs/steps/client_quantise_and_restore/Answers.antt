-- Right arguments are quantised, and what is restored of the levels is near.
use Rattle.clients.proofs.Rounding.{quantises, restores, nearly}
use Rattle.clients.proofs.steps.client_quantise_and_restore.Goals as goal

pub returns-then-number-ne0 : goal.returns-then-number-ne0
returns-then-number-ne0 c =
    record {
      number = λ right indices room again. absurd (c.if-number-ne0.true (quantises _ _ _ _ _ right indices room again c.lapped_quantise-number.ensures.value));
      near = λ indices z. absurd (c.if-number-ne0.true z);
    }

pub returns : goal.returns
returns c =
    let levels = c.lapped_quantise-number.ensures.high_levels_after in
    let back = c.lapped_restore.ensures in record {
      number = λ right indices room again. restores _ _ _ _ _ right indices room again c.if-number-ne0.false levels back.value;
      near = λ indices z i. nearly _ _ _ indices c.if-number-ne0.false levels back.high_after z i;
    }
