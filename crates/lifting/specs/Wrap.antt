-- Signed 32-bit arithmetic that wraps: an integer reduced into the range from -2147483648 to 2147483647.
use Rattle.std.specs.Prelude.{ℕ, ◌-◌, ◌%◌, ℤ, pos, negsuc}
use Rattle.std.proofs.Common.{to_z}
use Rattle.std.specs.Int.{w32}

-- the remainder of z on division by 2^32; `negsuc n` is -(n + 1)
abbrev pub low32 : ℤ → ℕ
low32 (pos n) = n % 4294967296
low32 (negsuc n) = 4294967295 - n % 4294967296

-- z reduced into the signed 32-bit range: the number of 32 bits, as two's complement, with z's remainder
unfoldable pub wrap : ℤ → ℤ
wrap z = to_z w32 (low32 z)
