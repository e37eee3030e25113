-- What the loop keeps.
use Rattle.picture.specs.Planes.{planes}
use Rattle.tries.specs.Tries.{passes_by}
use Rattle.find_step.proofs.Search.{Searching}
use Rattle.find_step.proofs.find_index.Given as goal

abbrev pub invariant-loop-index : goal.invariant-loop-index
invariant-loop-index l =
    Searching (passes_by l.mode l.size l.samples l.tolerance) l.size (planes l.dc l.low l.high) l.second l.index
