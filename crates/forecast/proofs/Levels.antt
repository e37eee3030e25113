-- How often a level uses an operator: each of its stages uses one program at places that do not matter for the count, so uses are counts of places times the uses in that program.
use Prim.Native.Nat.{ℕ, ◌+◌, ◌-◌, ◌*◌}
use mathlib.Core.Path.{◌≡◌, refl}
use mathlib.Core.Bool.{Bool, true, false, cond}
use native.Mathlib.Omega.{arith}
use Rattle.lifting.specs.Program.{Program, end, Operator, Core, SquareFilter, FourFilter, ◌then◌}
use Rattle.lifting.specs.OperatorUses.{uses}
use Rattle.lifting.proofs.OperatorUses.{uses_then, uses-each}
use Rattle.figures.specs.Figures.{core, core_stages, hadamard, odd, odd_odd, rotation, scale, post_hadamard, post_odd_odd, four_filter, square_filter}
use Rattle.forecast.specs.declared.LevelUses.{LevelUses}
use Rattle.forecast.specs.Claims.{LevelClaim}
use Rattle.transform.specs.Level.{core_at, square_filter_at, four_filter_at, corner_filter_at, cores, square_filters, row_filters, column_filters, along_edges, corner_filters, filters, level}

-- ---- any operator

module _ (o : Operator) where
  -- its uses in one core transform, one square filter and one four-number filter
  abbrev per_core : ℕ
  per_core = uses o (core_at 0 0)

  abbrev per_square_filter : ℕ
  per_square_filter = uses o (square_filter_at 0 0)

  abbrev per_four_filter : ℕ
  per_four_filter = uses o (four_filter_at 0 0)

  module _ (p q : ℕ) where
    cores-use : uses o (cores p q) ≡ q * (p * per_core)
    unfolding cores core_at uses
    cores-use = uses-each o (p * per_core) q _ (λ j. uses-each o per_core p _ (λ i. refl))

    square-filters-use : uses o (square_filters p q) ≡ (q - 1) * ((p - 1) * per_square_filter)
    unfolding square_filters square_filter_at uses
    square-filters-use = uses-each o ((p - 1) * per_square_filter) (q - 1) _ (λ j. uses-each o per_square_filter (p - 1) _ (λ i. refl))

    row-uses : (r : ℕ) → uses o (row_filters p r) ≡ (p - 1) * per_four_filter
    unfolding row_filters four_filter_at uses
    row-uses r = uses-each o per_four_filter (p - 1) _ (λ i. refl)

    column-uses : (c : ℕ) → uses o (column_filters p q c) ≡ (q - 1) * per_four_filter
    unfolding column_filters four_filter_at uses
    column-uses c = uses-each o per_four_filter (q - 1) _ (λ j. refl)

    edges-use : (n k : ℕ) (line : ℕ → Program) → ((i : ℕ) → uses o (line i) ≡ k) → uses o (along_edges n line) ≡ 4 * k
    edges-use n k line h = simp uses_then (omega (arith, h 0, h 1, h (4 * n - 2), h (4 * n - 1)))

    corners-use : uses o (corner_filters p q) ≡ 4 * per_four_filter
    unfolding corner_filters corner_filter_at four_filter_at uses ◌then◌
    corners-use = omega arith

    filters-use : uses o (filters p q) ≡ (q - 1) * ((p - 1) * per_square_filter) + (4 * ((p - 1) * per_four_filter) + (4 * ((q - 1) * per_four_filter) + 4 * per_four_filter))
    unfolding filters
    filters-use =
        let rows = along_edges q (row_filters p) in
        let columns = along_edges p (column_filters p q) in
        omega (
          arith,
          uses_then o (square_filters p q) (rows then columns then corner_filters p q),
          uses_then o rows (columns then corner_filters p q),
          uses_then o columns (corner_filters p q),
          square-filters-use,
          edges-use q _ (row_filters p) row-uses,
          edges-use p _ (column_filters p q) column-uses,
          corners-use,
        )

    level-use : (filtered : Bool) → uses o (level filtered p q) ≡ p * q * per_core + cond filtered ((p - 1) * (q - 1) * per_square_filter + (4 * (p - 1) + 4 * (q - 1) + 4) * per_four_filter) 0
    unfolding level uses
    level-use true = omega (arith, uses_then o (cores p q) (filters p q), cores-use, filters-use)
    level-use false = omega (arith, uses_then o (cores p q) end, cores-use)

-- ---- the operators of a level, none of which uses another of them

abbrev level_of : ℕ → ℕ → ℕ → LevelUses
level_of cores squares fours = record { cores = cores; square_filters = squares; four_filters = fours }

same-uses : {a b c x y z : ℕ} → a ≡ x → b ≡ y → c ≡ z → level_of a b c ≡ level_of x y z
same-uses e f g = rw (e, f, g)

pub level_claim : LevelClaim
unfolding uses core_at square_filter_at four_filter_at core core_stages hadamard odd odd_odd rotation scale post_hadamard post_odd_odd four_filter square_filter
level_claim true p q = same-uses (omega (arith, level-use Core p q true)) (omega (arith, level-use SquareFilter p q true)) (omega (arith, level-use FourFilter p q true))
level_claim false p q = same-uses (omega (arith, level-use Core p q false)) (omega (arith, level-use SquareFilter p q false)) (omega (arith, level-use FourFilter p q false))
