-- Numbers as text: the bytes of a decimal, of a row of decimals and of the line for a refusal, and where they are written.
use Rattle.std.specs.Prelude.{ℕ, zero, suc, ◌+◌, ◌/◌, ◌%◌, true, false, cond, List, [], ◌∷◌, ◌++◌, ltb, leb, length, take, drop, ℤ, pos, negsuc}
use Prim.Native.Char.{code}
use Prim.Native.String as S

-- the bytes of a quoted text in ASCII
abbrev pub ascii : S.String → List ℕ
ascii S.[] = []
ascii (S.◌∷◌ c s) = code c ∷ ascii s

abbrev pub digit : ℕ → ℕ
digit d = code "0" + d

-- n below ten is its one digit; any other has the digits of n / 10 and then n % 10, so that no zero stands in front (k bounds the steps)
unfoldable pub digits_in : ℕ → ℕ → List ℕ
digits_in zero n = []
digits_in (suc k) n =
    elim (ltb n 10) [
      | true ↦ digit n ∷ []
      | false ↦ digits_in k (n / 10) ++ (digit (n % 10) ∷ [])
    ]

-- the digits of n; n + 1 steps are enough
unfoldable pub digits : ℕ → List ℕ
digits n = digits_in (suc n) n

-- a signed number; `negsuc n` is -(n + 1)
unfoldable pub decimal : ℤ → List ℕ
decimal (pos n) = digits n
decimal (negsuc n) = ascii "-" ++ digits (suc n)

-- a line of decimals parted by one space (01, "The numbers each operation gives", Program)
unfoldable pub row : List ℤ → List ℕ
row [] = ascii "\n"
row (x ∷ []) = decimal x ++ ascii "\n"
row (x ∷ y ∷ ys) = decimal x ++ ascii " " ++ row (y ∷ ys)

-- the line for a refusal with the number k (in the same place)
unfoldable pub refused_line : ℕ → List ℕ
refused_line k = ascii "refused " ++ digits k ++ ascii "\n"

-- the bytes b with the text t in place of what stood from `at` on
unfoldable pub over : List ℕ → ℕ → List ℕ → List ℕ
over b at t = take at b ++ t ++ drop (at + length t) b

-- the bytes b after the text t is written to their front: unchanged if they have no room for all of it
unfoldable pub written : List ℕ → List ℕ → List ℕ
written t b = cond (leb (length t) (length b)) (over b 0 t) b

-- how many bytes that is: 0 if there is no room
unfoldable pub count : List ℕ → ℕ → ℕ
count t room = cond (leb (length t) room) (length t) 0
