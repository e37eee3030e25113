-- One coefficient as a level, and back (02, a).
use Rattle.std.specs.Prelude.{ℕ, ◌+◌, ◌/◌, Bool, ltb, ℤ, pos, negsuc, neg_ℤ, nat_abs, ◌*ℤ◌}

-- the sign of x with magnitude m
abbrev pub signed : ℤ → ℕ → ℤ
signed (pos n) m = pos m
signed (negsuc n) m = neg_ℤ (pos m)

-- the sign of the coefficient with magnitude (magnitude + step div 2) div step
unfoldable pub quantised : ℕ → ℤ → ℤ
quantised step x = signed x ((nat_abs x + step / 2) / step)

-- restoring multiplies level by step
abbrev pub restored : ℕ → ℤ → ℤ
restored step level = level *ℤ pos step

-- outside the signed 32-bit range; `negsuc n` is -(n + 1)
abbrev pub is_out_of_range : ℤ → Bool
is_out_of_range (pos n) = ltb 2147483647 n
is_out_of_range (negsuc n) = ltb 2147483647 n
