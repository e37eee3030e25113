-- The search from 255 downward: none of the indices above passed, so that the next is the last that could; and an index that passes, or none above 1, answers.
use Prim.Native.Nat.{ℕ, zero, suc, ◌-◌, ◌*◌, ◌≤◌}
use mathlib.Core.Path.{◌≡◌, subst}
use mathlib.Core.Bool.{Bool, true, false}
use mathlib.Core.List.{List}
use native.Mathlib.Omega.{arith}
use native.Mathlib.Decide.{dec_le}
use lib.IntN.{ℤ}
use lib.ListN.{length}
use Rattle.picture.specs.declared.size.Size.{Size}
use Rattle.picture.specs.Sizes.{macroblocks}
use Rattle.picture.specs.Planes.{Lengths, Planes}
use Rattle.find_step.specs.FindStep.{NoneAbove, Answer}

-- before an index is tried: what is known of those above it, and that the slices are as long as they were
pub record Searching (test : ℕ → Bool) (size : Size) (s : Planes) (second : List ℤ) (index : ℕ) : Type 0 where
  pub least : 1 ≤ index
  pub most : index ≤ 255
  pub none : NoneAbove test index
  pub fit : Lengths (macroblocks size) s
  pub long : length second ≡ 256 * macroblocks size

pub none-above-255 : (test : ℕ → Bool) → NoneAbove test 255
none-above-255 test k h m = absurd (omega arith)

pub one_less : (test : ℕ → Bool) (index : ℕ) → 1 ≤ index → NoneAbove test index → test index ≡ false → NoneAbove test (index - 1)
one_less test index l none e k h m = case (dec_le k index)
  where
    case : Dec (k ≤ index) → test k ≡ false
    case (yes g) = let same : index ≡ k = omega arith in subst (λ (i : ℕ). test i ≡ false) same e
    case (no g) = none k (omega (arith, g)) m

pub answers : (test : ℕ → Bool) (index : ℕ) → 2 ≤ index → index ≤ 255 → test index ≡ true → Answer test index
answers test zero l m e = absurd (omega arith)
answers test (suc k) l m e = (l, m, e)

pub none_answers : (test : ℕ → Bool) (index : ℕ) → index ≤ 1 → NoneAbove test index → Answer test 0
none_answers test index h none k l m = none k (omega arith) m
