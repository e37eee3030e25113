-- As for the inverse.
use Rattle.clients.specs.Faults.{RestoreFaults}
use Rattle.clients.proofs.Numbers.{restore-faults}
use Rattle.clients.proofs.FaultLaws.{by_number, taken}
use Rattle.clients.proofs.steps.client_restore.Goals as goal

pub returns : goal.returns
returns c =
    let e = c.before.before.before.lapped_restore.ensures in
    let s = taken e.high_after in
    record { number = by_number (RestoreFaults _ _ _ _ _) e.value (restore-faults _ _ _ _ _); done = λ z. s.done z; refused = λ n. s.refused n }
