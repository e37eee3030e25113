-- What the loop keeps.
use Rattle.forward_one_filters.proofs.Apart.{Storing}
use Rattle.forward_one_filters.proofs.windows.put_windows.Given as goal

abbrev pub invariant-loop-l : goal.invariant-loop-l
invariant-loop-l l = Storing l.size l.w.j l.w.i l.n l.initial.dc l.initial.low l.dc l.low l.l
