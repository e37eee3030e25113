-- No number lies in two windows of the filters, at either level (01, "One level"; 02, f).
use Rattle.std.specs.Prelude.{ℕ, ◌*◌, ◌≤◌}
use Rattle.transform.specs.Apart.{windows_at}
use Rattle.transform.specs.Level.{filters}

abbrev pub OneWindowAtMost : Type 0
OneWindowAtMost =
    (W H : ℕ) → 1 ≤ W → W ≤ 525 → 1 ≤ H → H ≤ 413 → (i : ℕ)
    → (windows_at (filters W H) i ≤ 1) × (windows_at (filters (4 * W) (4 * H)) i ≤ 1)
