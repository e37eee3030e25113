-- A square of a grid as the places of its sixteen coefficients: what is put there is read there again, and nowhere else.
use Prim.Native.Nat.{ℕ, ◌+◌, ◌*◌, ◌/◌, ◌%◌, ◌≤◌, ◌<◌}
use mathlib.Core.Path.{◌≡◌, refl, sym, ◌∙◌, ap}
use mathlib.Core.List.{List, [], ◌∷◌, map}
use native.Mathlib.Omega.{arith}
use lib.Dec.{T}
use lib.ListN.{length}
use lib.IntN.{ℤ}
use Rattle.lifting.specs.Program.{at, get, put}
use Rattle.lifting.specs.Valid.{places}
use Rattle.lifting.proofs.Reverse.{get-put}
use Rattle.lifting.proofs.Uses.{places-map}
use Rattle.lifting.proofs.Between.{All}
use Rattle.lifting.proofs.Locality.{agree_refl, put_keeps}
use Rattle.transform.specs.Level.{cell, square}
use Rattle.picture.specs.Table.{table}
use Rattle.transform.specs.Grids.{square_of, coefficient_of, place}
use Rattle.picture.proofs.Table.{at_table}
use Rattle.transform.proofs.Geometry.{square-of-place, coefficient_of_place, place-low}

abbrev pub sixteen : List ℕ
sixteen = 0 ∷ 1 ∷ 2 ∷ 3 ∷ 4 ∷ 5 ∷ 6 ∷ 7 ∷ 8 ∷ 9 ∷ 10 ∷ 11 ∷ 12 ∷ 13 ∷ 14 ∷ 15 ∷ []

pub get_sixteen : (f : ℕ → ℕ) (v : List ℤ) → get (map f sixteen) v ≡ table 16 (λ k. at v (f k))
unfolding get table
get_sixteen f v = refl

all_sixteen : (P : ℕ → Type 0) (f : ℕ → ℕ) → ((k : ℕ) → k < 16 → P (f k)) → All P (map f sixteen)
all_sixteen P f h = (
  h 0 (omega arith),
  (
    h 1 (omega arith),
    (
      h 2 (omega arith),
      (
        h 3 (omega arith),
        (
          h 4 (omega arith),
          (
            h 5 (omega arith),
            (
              h 6 (omega arith),
              (
                h 7 (omega arith),
                (h 8 (omega arith), (h 9 (omega arith), (h 10 (omega arith), (h 11 (omega arith), (h 12 (omega arith), (h 13 (omega arith), (h 14 (omega arith), (h 15 (omega arith), tt)))))))),
              ),
            ),
          ),
        ),
      ),
    ),
  ),
)

four-places : {a b c d a' b' c' d' : ℕ} {l l' : List ℕ} → a ≡ a' → b ≡ b' → c ≡ c' → d ≡ d' → l ≡ l' → a ∷ b ∷ c ∷ d ∷ l ≡ a' ∷ b' ∷ c' ∷ d' ∷ l'
four-places a b c d e = rw (a, b, c, d, e)

pub square-is : (p r c : ℕ) → square (4 * p) (cell p r c) ≡ map (λ k. (r + k / 4) * (4 * p) + (c + k % 4)) sixteen
unfolding square
square-is p r c =
    four-places (omega arith) (omega arith) (omega arith) (omega arith)
    (four-places (omega arith) (omega arith) (omega arith) (omega arith)
    (four-places (omega arith) (omega arith) (omega arith) (omega arith)
    (four-places (omega arith) (omega arith) (omega arith) (omega arith) refl)))

pub square-places : (p s : ℕ) (v : List ℤ) → get (square (4 * p) (cell p (4 * (s / p)) (4 * (s % p)))) v ≡ table 16 (λ k. at v (place p s k))
square-places p s v = rw (square-is p (4 * (s / p)) (4 * (s % p))) (get_sixteen (place p s) v)

-- ---- one square of a grid written

module _ {p : ℕ} (wide : 0 < p) (q s : ℕ) (low : s < p * q) where
  its_places : (n : ℕ) → 16 * (p * q) ≤ n → T (places n (map (place p s) sixteen))
  its_places n l =
      places-map 16 n (place p s) (λ i h. omega (arith, place-low wide q s i low h))
      (λ i j h m e. sym (coefficient_of_place wide s i h) ∙ ap (coefficient_of p) e ∙ coefficient_of_place wide s j m) sixteen tt

  pub own : (xs v : List ℤ) → length xs ≡ 16 → 16 * (p * q) ≤ length v → (k : ℕ) → k < 16 → at (put (map (place p s) sixteen) xs v) (place p s k) ≡ at xs k
  own xs v h l k m =
      let u = put (map (place p s) sixteen) xs v in
      sym (at_table 16 (λ j. at u (place p s j)) k m)
      ∙ ap (λ w. at w k) (sym (get_sixteen (place p s) u) ∙ get-put (map (place p s) sixteen) xs v (its_places (length v) l) h refl)

pub other : {p : ℕ} → 0 < p → (s : ℕ) (xs v : List ℤ) (i : ℕ) → (square_of p i ≡ s → ⊥) → at (put (map (place p s) sixteen) xs v) i ≡ at v i
other {p} wide s xs v i h =
    (put_keeps (λ j. square_of p j ≡ s → ⊥) (map (place p s) sixteen) xs (all_sixteen (λ j. ¬ (square_of p j ≡ s → ⊥)) (place p s) (λ k l f. f (square-of-place wide s k l))) agree_refl
    ).same i h
