-- What the strip takes of a row of macroblocks: its first row that no row above has made, and its windows down.
use Rattle.std.specs.Prelude.{ℕ, ◌+◌, ◌<◌, ◌≡◌}

-- the first row of macroblocks makes all of its rows, and another leaves the first two to the row above
pub record Top (r first : ℕ) : Type 0 where
  pub whole : r ≡ 0 → first ≡ 0
  pub rest : 0 < r → first ≡ 2

-- the last row of macroblocks, of H, has three windows down, and another four
pub record Bottom (r H down : ℕ) : Type 0 where
  pub last : r + 1 ≡ H → down ≡ 3
  pub inner : r + 1 < H → down ≡ 4
