-- A text that fits is written, and one that does not leaves the bytes as they were: the count tells which.
use Rattle.std.proofs.Common.{◌≡◌, ℕ, ◌<◌, ◌≤◌, List, length}
use borrow.Author.Tests.{le-leb, lt-leb}
use Rattle.decimal.specs.Text.{over, written, count}

pub written-fits : (t b : List ℕ) → length t ≤ length b → written t b ≡ over b 0 t
unfolding written
written-fits t b h = rw (le-leb (length t) (length b) h)

pub written_none : (t b : List ℕ) → length b < length t → written t b ≡ b
unfolding written
written_none t b h = rw (lt-leb (length t) (length b) h)

pub count_fits : (t : List ℕ) (room : ℕ) → length t ≤ room → count t room ≡ length t
unfolding count
count_fits t room h = rw (le-leb (length t) room h)

pub count_none : (t : List ℕ) (room : ℕ) → room < length t → count t room ≡ 0
unfolding count
count_none t room h = rw (lt-leb (length t) room h)
