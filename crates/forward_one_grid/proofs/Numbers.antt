-- A number of level one's grid is read from the one cell of its slices that holds it, and a store into that cell changes the number at its place and no other.
use Prim.Native.Nat.{ℕ, zero, suc, ◌+◌, ◌-◌, ◌*◌, ◌<◌}
use mathlib.Core.Path.{◌≡◌, refl, sym, ◌∙◌, ap}
use mathlib.Core.List.{List}
use native.Mathlib.Omega.{arith}
use native.Mathlib.Decide.{ℕ_discrete}
use lib.ListN.{length, set, length-set}
use lib.Seq.{get_or-set_same, get_or-set_other}
use lib.IntN.{ℤ, pos}
use Rattle.lifting.specs.Program.{at}
use Rattle.transform.specs.Grids.{square_of, coefficient_of, place, grid, coefficients, first_grid}
use Rattle.transform.proofs.Geometry.{square-of-place, coefficient_of_place, place-low}
use Rattle.transform.proofs.Grid.{first_coefficient, later_coefficient, at-grid, at_first, grid-is, length-grid}

back_one : (k : ℕ) → suc k - 1 ≡ k
back_one k = omega arith

-- a grid with a square has a width
pub wide-where : (W H t : ℕ) → t < W * H → 0 < W
wide-where zero H t h = absurd (omega (arith, h))
wide-where (suc W) H t h = omega arith

module _ {W : ℕ} (wide : 0 < W) (H : ℕ) where
  -- grids that differ in coefficient k of square s alone
  grid-set : (f f' : ℕ → ℕ → ℤ) (s k : ℕ) (x : ℤ) → s < W * H → k < 16 → f' s k ≡ x
      → ((t l : ℕ) → l < 16 → ((t ≡ s) × (l ≡ k) → ⊥) → f' t l ≡ f t l)
      → grid W H f' ≡ set (grid W H f) (place W s k) x
  grid-set f f' s k x hs hk here there = grid-is wide H f' (set (grid W H f) (place W s k) x) (length-set (grid W H f) (place W s k) x ∙ length-grid W H f) entry
    where
      entry : (t l : ℕ) → t < W * H → l < 16 → f' t l ≡ at (set (grid W H f) (place W s k) x) (place W t l)
      entry t l ht hl = by-case (ℕ_discrete (place W t l) (place W s k))
        where
          by-case : Dec (place W t l ≡ place W s k) → f' t l ≡ at (set (grid W H f) (place W s k) x) (place W t l)
          by-case (yes e) =
              let es : t ≡ s = sym (square-of-place wide t l hl) ∙ ap (square_of W) e ∙ square-of-place wide s k hk in
              let ek : l ≡ k = sym (coefficient_of_place wide t l hl) ∙ ap (coefficient_of W) e ∙ coefficient_of_place wide s k hk in
              let r : place W s k < length (grid W H f) = omega (arith, length-grid W H f, place-low wide H s k hs hk) in
              rw (es, ek, here) (sym (get_or-set_same (grid W H f) (place W s k) x (pos 0) r))
          by-case (no n) =
              there t l hl (λ b. n (rw (b.0, b.1)))
              ∙ sym (at-grid wide H f t l ht hl)
              ∙ sym (get_or-set_other (grid W H f) (place W s k) (place W t l) x (pos 0) n)

  module _ (dc low : List ℤ) (t k : ℕ) (inside : t < W * H) where
    pub dc-read : k ≡ 0 → at dc t ≡ at (first_grid W H dc low) (place W t k)
    dc-read e = first_coefficient _ _ k e ∙ sym (at_first wide H dc low t k inside (omega arith))

    pub low_read : k < 16 → (k ≡ 0 → ⊥) → at low (15 * t + (k - 1)) ≡ at (first_grid W H dc low) (place W t k)
    low_read h n = later_coefficient _ (λ j. at low (15 * t + j)) k n ∙ sym (at_first wide H dc low t k inside h)

    pub dc-stored : (x : ℤ) → k ≡ 0 → t < length dc → first_grid W H (set dc t x) low ≡ set (first_grid W H dc low) (place W t k) x
    unfolding first_grid
    dc-stored x e h = rw e (grid-set _ _ t 0 x inside (omega arith) (get_or-set_same dc t x (pos 0) h) there)
      where
        there : (s l : ℕ) → l < 16 → ((s ≡ t) × (l ≡ 0) → ⊥)
            → coefficients (at (set dc t x) s) (λ j. at low (15 * s + j)) l ≡ coefficients (at dc s) (λ j. at low (15 * s + j)) l
        there s zero hl n = get_or-set_other dc t s x (pos 0) (λ q. n (q, refl))
        there s (suc l) hl n = refl

    pub low-stored : (x : ℤ) → k < 16 → (k ≡ 0 → ⊥) → 15 * t + (k - 1) < length low
        → first_grid W H dc (set low (15 * t + (k - 1)) x) ≡ set (first_grid W H dc low) (place W t k) x
    unfolding first_grid
    low-stored x h n r = by-case k h n r
      where
        by-case : (k : ℕ) → k < 16 → (k ≡ 0 → ⊥) → 15 * t + (k - 1) < length low
            → first_grid W H dc (set low (15 * t + (k - 1)) x) ≡ set (first_grid W H dc low) (place W t k) x
        by-case zero h n r = absurd (n refl)
        by-case (suc k) h n r =
            rw (back_one k) (grid-set _ _ t (suc k) x inside h (get_or-set_same low (15 * t + k) x (pos 0) (omega arith)) there)
          where
            there : (s l : ℕ) → l < 16 → ((s ≡ t) × (l ≡ suc k) → ⊥)
                → coefficients (at dc s) (λ j. at (set low (15 * t + k) x) (15 * s + j)) l ≡ coefficients (at dc s) (λ j. at low (15 * s + j)) l
            there s zero hl m = refl
            there s (suc l) hl m = get_or-set_other low (15 * t + k) (15 * s + l) x (pos 0) (λ q. m (omega (arith, q), omega (arith, q)))
