-- The number is that of the first fault, and the answer says what stands in the file, or zeros.
use Rattle.plane_file.specs.Numbers.{header_number}
use Rattle.clients.specs.Faults.{HeaderFaults}
use Rattle.clients.proofs.FaultLaws.{by_number}
use Rattle.clients.proofs.HeaderLaws.{header-faults, answer-number, said}
use Rattle.clients.proofs.files.client_read_header.Goals as goal

pub returns : goal.returns
returns c =
    let e = c.lapped_read_header.ensures in
    record {
      number = by_number (HeaderFaults _) (answer-number _ (header_number _) e) (header-faults _);
      said = said _ (header_number _) e;
    }
