-- The tables of bench and reference values, row by row: none can be exchanged for another or for zeros.
use Rattle.std.specs.Prelude.{ℕ, suc, ◌≡◌, List, [], ◌∷◌, ◌++◌, map, replicate, ℤ, pos, ◌+ℤ◌, ◌*ℤ◌}
use Rattle.lifting.specs.Program.{run}
use Rattle.figures.specs.Figures.{hadamard, odd, odd_odd, core, rotation, scale, post_hadamard, post_odd_odd, four_filter, square_filter}
use Rattle.figures.specs.Reference.{reference}
use Rattle.known_answers.specs.Pictures.{minus}

abbrev two : ℤ → ℤ → List ℤ
two x y = x ∷ y ∷ []

abbrev four : ℤ → ℤ → ℤ → ℤ → List ℤ
four x y z w = x ∷ y ∷ z ∷ w ∷ []

-- the starred values, each as 01 has it ("Bench values")
pub record StarredValues : Type 0 where
  pub four-0 : run (hadamard (pos 0)) (four (pos 4) (pos 0) (pos 0) (pos 0)) ≡ four (pos 2) (pos 2) (pos 2) (pos 2)
  pub one-0 : run (hadamard (pos 0)) (four (pos 1) (pos 0) (pos 0) (pos 0)) ≡ four (pos 1) (pos 0) (pos 0) (pos 0)
  pub minus-one-0 : run (hadamard (pos 0)) (four (minus 1) (pos 0) (pos 0) (pos 0)) ≡ four (pos 0) (minus 1) (minus 1) (minus 1)
  pub one-1 : run (hadamard (pos 1)) (four (pos 1) (pos 0) (pos 0) (pos 0)) ≡ four (pos 0) (pos 1) (pos 1) (pos 1)
  pub minus-one-1 : run (hadamard (pos 1)) (four (minus 1) (pos 0) (pos 0) (pos 0)) ≡ four (minus 1) (pos 0) (pos 0) (pos 0)
  pub wrapping : run (hadamard (pos 0)) (four (pos 2147483647) (pos 0) (pos 0) (pos 1)) ≡ four (minus 1073741824) (minus 1073741825) (minus 1073741825) (minus 1073741824)
  pub odd-8 : run odd (four (pos 8) (pos 0) (pos 0) (pos 0)) ≡ four (pos 6) (pos 5) (pos 2) (pos 2)
  pub odd-odd-8 : run odd_odd (four (pos 8) (pos 0) (pos 0) (pos 0)) ≡ four (pos 7) (minus 3) (minus 3) (pos 1)
  pub rotation-1 : run rotation (two (pos 0) (pos 1)) ≡ two (minus 1) (pos 1)
  pub scale-8 : run scale (two (pos 8) (pos 0)) ≡ two (pos 9) (pos 5)
  pub scale-minus-1 : run scale (two (minus 1) (pos 0)) ≡ two (minus 2) (minus 2)
  pub post_hadamard_8 : run post_hadamard (four (pos 8) (pos 0) (pos 0) (pos 0)) ≡ four (pos 4) (pos 0) (pos 0) (pos 4)
  pub core-0 : run core (pos 16 ∷ replicate 15 (pos 0)) ≡ replicate 16 (pos 4)
  pub core-1 : run core (pos 0 ∷ pos 8 ∷ replicate 14 (pos 0)) ≡
      four (pos 3) (pos 1) (minus 1) (minus 3) ++ four (pos 3) (pos 1) (minus 1) (minus 3)
      ++ four (pos 3) (pos 1) (minus 1) (minus 3) ++ four (pos 2) (pos 1) (minus 1) (minus 3)

-- ---- the reference values: the operator of each row, and the sums x0 + 2 x1 + 3 x2 + .. of what goes in and of what rust/reference gives for it

unfoldable pub weighted : ℕ → List ℤ → ℤ
weighted k [] = pos 0
weighted k (x ∷ xs) = pos k *ℤ x +ℤ weighted (suc k) xs

abbrev pub ReferenceRows : Type 0
ReferenceRows =
    (map (λ v. v.operator) reference ≡
    odd ∷ odd ∷ odd_odd ∷ odd_odd ∷ core ∷ rotation ∷ scale ∷ post_hadamard ∷ post_hadamard ∷ post_odd_odd ∷ post_odd_odd ∷ post_odd_odd ∷ post_odd_odd ∷ post_odd_odd
    ∷ four_filter ∷ four_filter ∷ four_filter ∷ four_filter ∷ four_filter ∷ four_filter ∷ four_filter ∷ square_filter ∷ square_filter ∷ square_filter ∷ [])
    × (map (λ v. weighted 1 v.input) reference ≡
    minus 47 ∷ minus 62 ∷ pos 1 ∷ minus 2 ∷ minus 439 ∷ minus 3 ∷ pos 13 ∷ pos 18 ∷ pos 9 ∷ pos 8 ∷ pos 16 ∷ pos 18 ∷ pos 67 ∷ minus 1 ∷ pos 64 ∷ pos 256 ∷ pos 103 ∷ pos 23 ∷ pos 71 ∷ minus 47 ∷ pos 2147483651 ∷ pos 64 ∷ pos 10200 ∷ pos 1299 ∷ [])
    × (map (λ v. weighted 1 v.output) reference ≡
    pos 60 ∷ minus 14 ∷ minus 34 ∷ minus 2 ∷ minus 128 ∷ pos 0 ∷ minus 1 ∷ pos 38 ∷ pos 13 ∷ pos 26 ∷ pos 20 ∷ pos 0 ∷ pos 29 ∷ pos 4 ∷ pos 148 ∷ pos 239 ∷ pos 257 ∷ pos 39 ∷ pos 42 ∷ minus 45 ∷ minus 3813261310 ∷ pos 469 ∷ pos 11268 ∷ pos 1516 ∷ [])
