-- As for the header; what is loaded goes by the number of the checks.
use Rattle.plane_file.specs.Numbers.{load_number}
use Rattle.clients.specs.Faults.{LoadFaults}
use Rattle.clients.proofs.FaultLaws.{by_number}
use Rattle.clients.proofs.HeaderLaws.{load-faults, answer-number, said, loaded-planes, left-planes}
use Rattle.clients.proofs.files.client_load.Goals as goal

pub returns : goal.returns
returns c =
    let e = c.before.before.before.before.lapped_load.ensures in record {
      number = by_number (LoadFaults _ _) (answer-number _ (load_number _ _) e.value) (load-faults _ _);
      said = said _ (load_number _ _) e.value;
      done = λ z. loaded-planes _ (load_number _ _) _ e.value e.high_after z;
      refused = λ n. left-planes _ (load_number _ _) _ e.value e.high_after n;
    }
