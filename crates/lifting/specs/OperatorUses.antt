-- How often a program uses an operator.
use Rattle.std.specs.Prelude.{ℕ, ◌+◌, cond, eqb}
use Rattle.lifting.specs.Program.{Operator, Hadamard, Odd, OddOdd, Rotation, Scale, PostHadamard, PostOddOdd, Core, FourFilter, SquareFilter, Program, end, ◌⨾◌, reorder, apply}

-- the figure that an operator is, 4.4 to 4.14: what tells two operators apart
abbrev pub figure : Operator → ℕ
figure Hadamard = 4
figure Odd = 5
figure OddOdd = 6
figure Core = 8
figure Rotation = 9
figure Scale = 10
figure PostHadamard = 11
figure PostOddOdd = 12
figure FourFilter = 13
figure SquareFilter = 14

-- the uses of operator o in a program, at any depth: what it uses may itself use o
unfoldable pub uses : Operator → Program → ℕ
uses o end = 0
uses o (l ⨾ p) = uses o p
uses o (reorder to back p) = uses o p
uses o (apply used s ps p) = cond (eqb (figure used) (figure o)) 1 0 + uses o s + uses o p
