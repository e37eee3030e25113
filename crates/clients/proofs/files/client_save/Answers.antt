-- As for the inverse; what is written goes by the number of the checks.
use mathlib.Core.Path.{sym, ◌∙◌}
use Rattle.clients.specs.Faults.{SaveFaults}
use Rattle.clients.proofs.Numbers.{save-faults}
use Rattle.clients.proofs.FaultLaws.{by_number, taken}
use Rattle.clients.proofs.files.client_save.Goals as goal

pub returns : goal.returns
returns c =
    let e = c.before.before.before.lapped_save.ensures in
    let s = taken e.bytes_after in
    record {
      number = by_number (SaveFaults _ _ _ _) e.value (save-faults _ _ _ _);
      done = λ z. s.done (sym e.value ∙ z);
      refused = λ n. s.refused (λ z. n (e.value ∙ z));
    }
