-- The number is that of the first fault, and the figures are those of the mode, or zeros.
use Rattle.clients.specs.Faults.{ForecastFaults}
use Rattle.clients.proofs.FaultLaws.{by_number}
use Rattle.clients.proofs.WorkLaws.{forecast-faults, numbered, done, refused}
use Rattle.clients.proofs.pictures.client_forecast.Goals as goal

pub returns : goal.returns
returns c =
    let a = c.before.args in
    let e = c.lapped_forecast.ensures in
    record {
      number = by_number (ForecastFaults _ _) (numbered a.mode a.size e) (forecast-faults _ _);
      done = λ z. done a.mode a.size e z;
      refused = λ n. refused a.mode a.size e n;
    }
