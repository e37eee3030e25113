-- One core, by where its sixteen coefficients stand. No promise to a caller cites this.
use Rattle.std.specs.Prelude.{ℕ, ◌+◌, ◌*◌, ◌/◌, ◌%◌, Bool, List, ℤ}
use Rattle.lifting.specs.Program.{at}
use Rattle.lifting.specs.Wraps.{wraps}
use Rattle.figures.specs.Figures.{core}
use Rattle.picture.specs.Table.{table}
use Rattle.transform.specs.Grids.{coefficients}

-- whether the core of a block wraps whose coefficient 0 is x, and whose coefficients 1 to 15 stand one after another from a place of their plane
abbrev pub block_wraps : ℤ → List ℤ → ℕ → Bool
block_wraps x rest from = wraps core (table 16 (coefficients x (λ k. at rest (from + k))))

-- the coefficient 0 of block t, where those of a macroblock's sixteen blocks are its DC and low-pass numbers
abbrev pub held_zero : List ℤ → List ℤ → ℕ → ℤ
held_zero dc low t = coefficients (at dc (t / 16)) (λ k. at low (15 * (t / 16) + k)) (t % 16)
