-- Where a macroblock's numbers begin in the three planes: one macroblock has 1 number of DC, 15 of low-pass and 240 of high-pass.
use Rattle.std.specs.Prelude.{ℕ, ◌*◌, ◌≡◌}

-- the three places are those of one macroblock, whose number is its place in DC
abbrev pub OfOne : ℕ → ℕ → ℕ → Type 0
OfOne dc low high = (low ≡ 15 * dc) × (high ≡ 240 * dc)
