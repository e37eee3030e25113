-- The index that is found answers, and an answer keeps the tolerance.
use mathlib.Core.Path.{◌∙◌}
use Rattle.clients.specs.Faults.{FindFaults}
use Rattle.clients.proofs.Numbers.{find_faults}
use Rattle.clients.proofs.FaultLaws.{by_number, taken}
use Rattle.clients.proofs.Found.{kept, which, none_passes, refused_index, restored-planes, tried_samples_lem}
use Rattle.clients.proofs.steps.client_find_step.Goals as goal

pub returns : goal.returns
returns c =
    let f = c.before.before.before.before in
    let r = f.before.before.before.before.before in
    let a = r.before.args in
    let found = f.lapped_find_step.result in
    let e = f.lapped_find_step.ensures in
    let p = taken e.high_after in
    let s = taken e.second_after in record {
      number = by_number (FindFaults _ _ _ _ _) e.number_value (find_faults _ _ _ _ _);
      planes = λ z. p.done z ∙ restored-planes a.mode a.size a.samples.now found.index;
      samples = λ z. tried_samples_lem a.mode a.size a.samples.now found.index (s.done z) (p.done z);
      index = λ z. which found.number _ found.index e.index_beside z;
      none = λ z. none_passes found.number _ found.index e.index_beside z;
      refused = λ n. (refused_index found.number _ found.index e.index_beside n, s.refused n, p.refused n);
      near = λ z. kept _ _ _ _ _ _ found.index r.in_range.ensures e.number_value e.index_beside e.second_after z;
    }
