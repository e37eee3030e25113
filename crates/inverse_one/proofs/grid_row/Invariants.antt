-- What the loop keeps.
use Prim.Native.Nat.{◌+◌, ◌≤◌}
use Rattle.inverse_levels.specs.Filled.{Filled}
use Rattle.inverse_one.specs.Rows.{plane_numbers, Between}
use Rattle.inverse_one.proofs.grid_row.Given as goal

abbrev pub invariant-loop-c : goal.invariant-loop-c
invariant-loop-c l =
    let W = l.fn.size.width.0 in
    (l.c ≤ W) × Filled W (plane_numbers l.dc l.low) l.initial.view (Between l.m (l.m + l.c)) l.view
