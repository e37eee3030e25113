-- Two pictures looked at in pieces of 256 samples.
use Prim.Native.Nat.{ℕ, ◌+◌, ◌-◌, ◌*◌, ◌<◌}
use mathlib.Core.Path.{◌≡◌, refl, ◌∙◌, ap}
use mathlib.Core.Bool.{Bool, true, false, not}
use mathlib.Core.List.{List}
use native.Mathlib.Omega.{arith}
use lib.IntN.{ℤ, pos}
use lib.ListN.{length, take, drop}
use Rattle.std.proofs.lemmas.List.{length-take, length-drop, get_or-take, get_or-drop}
use Rattle.lifting.specs.Program.{at}
use Rattle.lifting.specs.Tests.{all}
use Rattle.differences.specs.Near.{near}
use Rattle.differences.proofs.Walk.{all_same, all_pieces}

-- the samples of macroblock m
abbrev pub piece : List ℤ → ℕ → List ℤ
piece v m = take (256 * (m + 1) - 256 * m) (drop (256 * m) v)

-- no sample of it is far
abbrev pub none_far : ℕ → List ℤ → List ℤ → ℕ → Bool
none_far t a b m = not (not (all (length (piece a m)) (near t (piece a m) (piece b m))))

not_not : (b : Bool) → not (not b) ≡ b
not_not true = refl
not_not false = refl

pub all_near-pieces : (t n : ℕ) (a b : List ℤ) → length a ≡ 256 * n → all n (none_far t a b) ≡ all (256 * n) (near t a b)
all_near-pieces t n a b h = all_same n (none_far t a b) (λ m. all 256 (λ i. near t a b (256 * m + i))) same ∙ all_pieces 256 n (near t a b)
  where
    there : (m i : ℕ) (v : List ℤ) → i < 256 → at (piece v m) i ≡ at v (256 * m + i)
    there m i v l = get_or-take (256 * (m + 1) - 256 * m) (drop (256 * m) v) i (pos 0) (omega arith) ∙ get_or-drop (256 * m) v i (pos 0)

    same : (m : ℕ) → m < n → none_far t a b m ≡ all 256 (λ i. near t a b (256 * m + i))
    same m l =
        let long : length (piece a m) ≡ 256 = omega (arith, length-take (256 * (m + 1) - 256 * m) (drop (256 * m) a), length-drop (256 * m) a) in
        not_not (all (length (piece a m)) (near t (piece a m) (piece b m))) ∙ ap (λ (k : ℕ). all k (near t (piece a m) (piece b m))) long
        ∙ all_same 256 (near t (piece a m) (piece b m)) (λ i. near t a b (256 * m + i)) (λ i k. rw (there m i a k, there m i b k))
