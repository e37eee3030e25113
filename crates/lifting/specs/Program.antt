-- Lifting programs: what the lines of a figure do to a row of numbers, and how they are undone, last line first.
use Rattle.std.specs.Prelude.{ℕ, zero, suc, ◌^◌, List, [], ◌∷◌, get_or, set, drop, ℤ, pos, neg_ℤ, ◌+ℤ◌, ◌-ℤ◌, ◌*ℤ◌}
use Rattle.std.specs.Int.Signed.{shr_z}
use Rattle.lifting.specs.Wrap.{wrap}

-- what stands on the right of a line: a variable, e + k, e - f, 3 * e, e >> k
infixl 60 ◌⊕◌
infixl 60 ◌⊖◌
infixl 50 ◌≫◌
pub data Expr : Type 0 where
  var : ℕ → Expr
  ◌⊕◌ : Expr → ℤ → Expr
  ◌⊖◌ : Expr → Expr → Expr
  3× : Expr → Expr
  ◌≫◌ : Expr → ℕ → Expr

-- one line: x += e, x -= e, x = e - x ("x from e"), x = -x, or x and y change places
infix 40 ◌+=◌
infix 40 ◌-=◌
infix 40 ◌from◌
pub data Line : Type 0 where
  ◌+=◌ ◌-=◌ ◌from◌ : ℕ → Expr → Line
  neg : ℕ → Line
  swap : ℕ → ℕ → Line

-- the figures' operators by name, so that their uses can be told apart
pub data Operator : Type 0 where
  Hadamard Odd OddOdd Rotation Scale PostHadamard PostOddOdd Core FourFilter SquareFilter : Operator

-- lines in order; a reorder, which sends the number k to the place `to k` and takes its place i from `back i`;
-- and uses of an operator on the numbers at some places
infixr 30 ◌⨾◌
pub data Program : Type 0 where
  end : Program
  ◌⨾◌ : Line → Program → Program
  reorder : List ℕ → List ℕ → Program → Program
  apply : Operator → Program → List ℕ → Program → Program

abbrev pub at : List ℤ → ℕ → ℤ
at v i = get_or v i (pos 0)

-- with `reduce` for what becomes of every sum, difference and multiple of 3; >> rounds toward minus infinity
unfoldable pub value_by : (ℤ → ℤ) → Expr → List ℤ → ℤ
value_by reduce (var i) v = at v i
value_by reduce (e ⊕ k) v = reduce (value_by reduce e v +ℤ k)
value_by reduce (e ⊖ f) v = reduce (value_by reduce e v -ℤ value_by reduce f v)
value_by reduce (3× e) v = reduce (pos 3 *ℤ value_by reduce e v)
value_by reduce (e ≫ k) v = shr_z (value_by reduce e v) (2 ^ k)

unfoldable pub line_by : (ℤ → ℤ) → Line → List ℤ → List ℤ
line_by reduce (i += e) v = set v i (reduce (at v i +ℤ value_by reduce e v))
line_by reduce (i -= e) v = set v i (reduce (at v i -ℤ value_by reduce e v))
line_by reduce (i from e) v = set v i (reduce (value_by reduce e v -ℤ at v i))
line_by reduce (neg i) v = set v i (reduce (neg_ℤ (at v i)))
line_by reduce (swap i j) v = set (set v i (at v j)) j (at v i)

-- the numbers at the places ps
unfoldable pub get : List ℕ → List ℤ → List ℤ
get [] v = []
get (p ∷ ps) v = at v p ∷ get ps v

-- v with the numbers xs at the places ps
unfoldable pub put : List ℕ → List ℤ → List ℤ → List ℤ
put [] xs v = v
put (p ∷ ps) xs v = put ps (drop 1 xs) (set v p (at xs 0))

unfoldable pub run_by : (ℤ → ℤ) → Program → List ℤ → List ℤ
run_by reduce end v = v
run_by reduce (l ⨾ p) v = run_by reduce p (line_by reduce l v)
run_by reduce (reorder to back p) v = run_by reduce p (get back v)
run_by reduce (apply o s ps p) v = run_by reduce p (put ps (run_by reduce s (get ps v)) v)

-- the line that takes a line back
unfoldable pub back : Line → Line
back (i += e) = i -= e
back (i -= e) = i += e
back (i from e) = i from e
back (neg i) = neg i
back (swap i j) = swap i j

-- the same program undone, from its last line to its first
unfoldable pub undo_by : (ℤ → ℤ) → Program → List ℤ → List ℤ
undo_by reduce end v = v
undo_by reduce (l ⨾ p) v = line_by reduce (back l) (undo_by reduce p v)
undo_by reduce (reorder to back p) v = get to (undo_by reduce p v)
undo_by reduce (apply o s ps p) v = put ps (undo_by reduce s (get ps (undo_by reduce p v))) (undo_by reduce p v)

-- the steps of 01: each result reduced into the signed 32-bit range
abbrev pub value : Expr → List ℤ → ℤ
value = value_by wrap

abbrev pub line : Line → List ℤ → List ℤ
line = line_by wrap

abbrev pub run : Program → List ℤ → List ℤ
run = run_by wrap

abbrev pub undo : Program → List ℤ → List ℤ
undo = undo_by wrap

-- one program and then another
infixr 30 ◌then◌
unfoldable pub ◌then◌ : Program → Program → Program
end then q = q
(l ⨾ p) then q = l ⨾ (p then q)
(reorder to back p) then q = reorder to back (p then q)
(apply o s ps p) then q = apply o s ps (p then q)

-- f 0, f 1, .., f (n - 1)
unfoldable pub each : ℕ → (ℕ → Program) → Program
each zero f = end
each (suc n) f = each n f then f n
