-- The first numbers are read.
use Rattle.std.proofs.Common.{◌≡◌, ℕ, ◌+◌, ◌*◌, ◌<◌, get_or, pos}
use Rattle.plane_file.specs.Words.{number_at}
use Rattle.plane_file.proofs.load.load_plane.Given as goal

abbrev pub invariant-loop-i : goal.invariant-loop-i
invariant-loop-i l = (k : ℕ) → k < l.i → get_or l.plane k (pos 0) ≡ number_at l.bytes (l.at + 4 * k)
