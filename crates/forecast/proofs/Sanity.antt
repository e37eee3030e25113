-- The definitions at small pictures, computed: whole forecasts, operators that are used inside others, and slices that the inverse takes.
use Prim.Native.Nat.{ℕ}
use mathlib.Core.Path.{◌≡◌, refl}
use mathlib.Core.Bool.{true}
use mathlib.Core.List.{List, [], ◌∷◌, map}
use lib.IntN.{ℤ, pos}
use Rattle.lifting.specs.Program.{Hadamard, Odd, OddOdd, Rotation, Scale, PostHadamard, PostOddOdd, Core, FourFilter, SquareFilter, ◌then◌, each}
use Rattle.lifting.specs.OperatorUses.{uses}
use Rattle.figures.specs.Figures.{core, core_stages, hadamard, odd, odd_odd, rotation, scale, post_hadamard, post_odd_odd, four_filter, square_filter}
use Rattle.transform.specs.Level.{square, core_at, square_filter_at, four_filter_at, corner_filter_at, cores, square_filters, row_filters, column_filters, corner_filters, filters, level}
use Rattle.picture.specs.Table.{table}
use Rattle.picture.specs.Planes.{planes}
use Rattle.picture.specs.Numbers.{inverse_number}
use Rattle.transform.proofs.Sanity.{of}
use Rattle.forecast.specs.declared.Work.{Work}
use Rattle.forecast.specs.Forecast.{work_by, no_work, forecast_number, forecast_answer}

abbrev done : ℕ → ℕ → ℕ → ℕ → Work
done cores squares fours bytes =
    record { number = 0; cores = cores; square_filters = squares; four_filters = fours; plane_bytes = bytes; sample_bytes = bytes }

-- 2 x 3: 6 and 96 cores; filtered, 2 and 77 square filters, 12 + 4 and 72 + 4 four-number filters. 1 x 1, in which level one has only corners to filter. And the three refusals
pub forecasts :
    (forecast_answer 0 (of 2 3) ≡ done 102 0 0 6144)
    × (forecast_answer 1 (of 2 3) ≡ done 102 77 76 6144)
    × (forecast_answer 2 (of 2 3) ≡ done 102 79 92 6144)
    × (forecast_answer 2 (of 1 1) ≡ done 17 9 32 1024)
    × (forecast_answer 3 (of 0 0) ≡ no_work 1)
    × (forecast_answer 2 (of 526 0) ≡ no_work 2)
    × (forecast_answer 2 (of 525 414) ≡ no_work 3)
unfolding uses ◌then◌ each hadamard odd odd_odd core core_stages rotation scale post_hadamard post_odd_odd four_filter square_filter square core_at square_filter_at four_filter_at corner_filter_at cores square_filters row_filters column_filters corner_filters filters level work_by forecast_number
forecasts = (refl, refl, refl, refl, refl, refl, refl)

-- a level of 2 x 2 squares uses 4 cores, 1 square filter and 12 four-number filters, and what these use
pub inside : map (λ o. uses o (level true 2 2)) (Core ∷ SquareFilter ∷ FourFilter ∷ Hadamard ∷ Odd ∷ OddOdd ∷ Rotation ∷ Scale ∷ PostHadamard ∷ PostOddOdd ∷ [])
    ≡ 4 ∷ 1 ∷ 12 ∷ 24 ∷ 8 ∷ 4 ∷ 16 ∷ 4 ∷ 4 ∷ 1 ∷ []
unfolding uses ◌then◌ each hadamard odd odd_odd core core_stages rotation scale post_hadamard post_odd_odd four_filter square_filter square core_at square_filter_at four_filter_at corner_filter_at cores square_filters row_filters column_filters corner_filters filters level
inside = refl

abbrev zeros : ℕ → List ℤ
zeros n = table n (λ i. pos 0)

-- the claim about bytes speaks of slices that there are
pub taken : inverse_number 1 (of 2 3) (planes (zeros 6) (zeros 90) (zeros 1440)) (zeros 1536) ≡ 0
unfolding inverse_number table
taken = refl
