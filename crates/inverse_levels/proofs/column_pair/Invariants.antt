-- What the loop keeps.
use Prim.Native.Nat.{ℕ, ◌+◌, ◌*◌}
use mathlib.Core.Path.{◌≡◌}
use lib.ListN.{length}
use Rattle.lifting.specs.Program.{Program, run, each, ◌then◌}
use Rattle.transform.specs.Level.{cell, four_filter_at}
use Rattle.inverse_levels.proofs.column_pair.Given as goal

-- the filters of columns c and c + 1 that begin in row 4 j + 2
abbrev pub pair : ℕ → ℕ → ℕ → Program
pair p c j = four_filter_at (4 * p) (cell p (4 * j + 2) c) then four_filter_at (4 * p) (cell p (4 * j + 2) (c + 1))

abbrev pub invariant-loop-j : goal.invariant-loop-j
invariant-loop-j l = (length l.grid ≡ length l.initial.grid) × (l.grid ≡ run (each l.j (pair l.fn.squares.across l.c)) l.initial.grid)
