-- Words of four bytes, little-endian, and signed numbers as words in two's complement (01, "The plane file").
use Rattle.std.specs.Prelude.{ℕ, zero, suc, ◌+◌, ◌*◌, ◌/◌, ◌%◌, List, [], ◌∷◌, ◌++◌, map, get_or, ℤ, pos}
use Rattle.lifting.specs.Wrap.{low32, wrap}
use Rattle.picture.specs.Table.{table}

-- ---- written

abbrev pub word : ℕ → List ℕ
word x = x % 256 ∷ x / 256 % 256 ∷ x / 65536 % 256 ∷ x / 16777216 % 256 ∷ []

unfoldable pub words : List ℕ → List ℕ
words [] = []
words (x ∷ xs) = word x ++ words xs

-- signed numbers, each by its remainder on division by 2^32
unfoldable pub numbers : List ℤ → List ℕ
numbers xs = words (map low32 xs)

-- ---- read

-- the word whose first byte is the one at `at`
unfoldable pub word_at : List ℕ → ℕ → ℕ
word_at bytes at = get_or bytes at 0 + 256 * get_or bytes (at + 1) 0 + 65536 * get_or bytes (at + 2) 0 + 16777216 * get_or bytes (at + 3) 0

-- n words from `at` on, one after another
abbrev pub words_at : List ℕ → ℕ → ℕ → List ℕ
words_at bytes at zero = []
words_at bytes at (suc n) = word_at bytes at ∷ words_at bytes (at + 4) n

-- the signed number of 32 bits that the word at `at` stands for, and n of them from there on
abbrev pub number_at : List ℕ → ℕ → ℤ
number_at bytes at = wrap (pos (word_at bytes at))

unfoldable pub numbers_at : List ℕ → ℕ → ℕ → List ℤ
numbers_at bytes at n = table n (λ i. number_at bytes (at + 4 * i))
