-- The definitions at small pictures: bench values of 01, how far a DC number reaches, and grids of one column or one row of squares. The pictures are computed.
use Prim.Native.Nat.{ℕ, zero, suc, ◌+◌, ◌-◌, ◌*◌, ◌/◌, ◌%◌, ◌≤◌}
use mathlib.Core.Path.{◌≡◌, refl, sym, subst}
use mathlib.Core.Bool.{Bool, true, false, cond, ◌&&◌, ◌||◌, beq}
use mathlib.Core.List.{List, [], ◌∷◌, ◌++◌}
use native.Mathlib.Omega.{arith}
use lib.Dec.{T, eqb, leb, ltb, lit<}
use lib.ListN.{set}
use lib.Seq.{get_or-set_other}
use lib.IntN.{ℤ, pos, negsuc}
use mir.Val.{SFits}
use mir.Syntax.{w32}
use Rattle.lifting.specs.Tests.{all}
use Rattle.lifting.specs.Row.{Row}
use Rattle.lifting.specs.Valid.{places}
use Rattle.lifting.specs.Wrap.{wrap}
use Rattle.lifting.specs.Program.{end, at, run, get, put, ◌then◌, each, line_by, run_by, value_by}
use Rattle.figures.specs.Figures.{hadamard, odd, odd_odd, core, core_stages, rotation, scale, post_hadamard, post_odd_odd, four_filter, square_filter}
use Rattle.picture.proofs.CheckLaws.{sized, shaped}
use Rattle.picture.specs.declared.size.Size.{Size}
use Rattle.transform.specs.Level.{square, corner, core_at, square_filter_at, four_filter_at, corner_filter_at, cores, square_filters, row_filters, column_filters, corner_filters, filters, level}
use Rattle.picture.specs.Modes.{mode_of}
use Rattle.picture.specs.Planes.{Planes, PlanesOf}
use Rattle.picture.specs.Table.{table}
use Rattle.transform.specs.Grids.{grid, block_order, first_grid, second_grid}
use Rattle.transform.specs.Windows.{high_margin, low_margin}
use Rattle.transform.specs.Transform.{quarter_by, inverse_by, inverse, forward}
use Rattle.picture.proofs.Table.{row-table}
use Rattle.transform.proofs.OnePlanes.{row-inverse}
use Rattle.transform.proofs.WholePictures.{whole_pictures}

abbrev pub of : ℕ → ℕ → Size
of W H = record { width = record { 0 = W }; height = record { 0 = H } }

-- planes with these DC numbers and the rest 0
abbrev pub dc_only : ℕ → List ℤ → Planes
dc_only n dc = record { dc = dc; low = table (15 * n) (λ i. pos 0); high = table (240 * n) (λ i. pos 0) }

-- ---- bench values: 1 x 1, mode 0 (01, "Bench values")

abbrev is_block : ℕ → Bool
is_block b = eqb b 1 || eqb b 4 || eqb b 5

abbrev is_sample : ℕ → ℕ → Bool
is_sample r c = (eqb r 0 && eqb c 1) || (eqb r 1 && eqb c 0) || (eqb r 1 && eqb c 1)

-- in each of the blocks 1, 4 and 5 those at (row, column) (0,1), (1,0) and (1,1); the others are 0
abbrev nine_ones : ℕ → ℕ → ℤ
nine_ones y x = cond (is_block (y / 4 * 4 + x / 4) && is_sample (y % 4) (x % 4)) (pos 1) (pos 0)

pub bench : (inverse 0 (of 1 1) (dc_only 1 (pos 1 ∷ [])) ≡ table 256 (λ i. nine_ones (i / 16) (i % 16))) × (inverse 0 (of 1 1) (dc_only 1 (pos 64 ∷ [])) ≡ table 256 (λ i. pos 4))
unfolding wrap run_by line_by value_by get put ◌then◌ each hadamard odd odd_odd core core_stages square core_at cores level table grid first_grid second_grid quarter_by inverse_by
bench = (refl, refl)

-- ---- how far a DC number reaches over the edge of its macroblock: as far as the windows of 01 say, and no less

abbrev changed : ℤ → Bool
changed (pos zero) = false
changed (pos (suc n)) = true
changed (negsuc n) = true

abbrev some : ℕ → (ℕ → Bool) → Bool
some zero f = false
some (suc n) f = f n || some n f

-- 2 x 1, modes 1 and 2: the columns that change with the DC number of the left macroblock are those of its window
abbrev left : ℕ → List ℤ
left mode = inverse mode (of 2 1) (dc_only 2 (pos 4096 ∷ pos 0 ∷ []))

abbrev columns_below : ℕ → List ℤ → Bool
columns_below c samples = all 32 (λ x. beq (some 16 (λ y. changed (at samples (y * 32 + x)))) (ltb x c))

-- 1 x 2, mode 2: the rows that change with the DC number of the lower macroblock are those of its window
abbrev lower : List ℤ
lower = inverse 2 (of 1 2) (dc_only 2 (pos 0 ∷ pos 4096 ∷ []))

abbrev rows_from : ℕ → List ℤ → Bool
rows_from r samples = all 32 (λ y. beq (some 16 (λ x. changed (at samples (y * 16 + x)))) (leb r y))

-- 1 x 1, mode 1: the columns that change with a high-pass number of block 5, whose own are 4 to 7, are those of its window
abbrev inner : List ℤ
inner = inverse 1 (of 1 1) (record { dc = table 1 (λ i. pos 0); low = table 15 (λ i. pos 0); high = set (table 240 (λ i. pos 0)) 75 (pos 4096) })

abbrev columns_between : ℕ → ℕ → List ℤ → Bool
columns_between a b samples = all 16 (λ x. beq (some 16 (λ y. changed (at samples (y * 16 + x)))) (leb a x && ltb x b))

pub reached : T (columns_below (16 + low_margin 1) (left 1) && columns_below (16 + low_margin 2) (left 2) && rows_from (16 - low_margin 2) lower && columns_between (4 - high_margin 1) (8 + high_margin 1) inner)
unfolding wrap run_by line_by value_by get put ◌then◌ each hadamard odd odd_odd core core_stages rotation scale post_hadamard post_odd_odd four_filter square_filter square core_at square_filter_at four_filter_at corner_filter_at cores square_filters row_filters column_filters corner_filters filters level table grid first_grid second_grid quarter_by inverse_by
reached = tt

-- ---- each half of the claim over whole pictures, cited at a concrete place

zero_row : (n : ℕ) → Row n (table n (λ i. pos 0))
zero_row n = row-table n _ (λ i l. record { sfits = lit< tt })

-- the nine ones of the bench value have the planes that give them, and `forward` finds these
one-dc : PlanesOf (of 1 1) (dc_only 1 (pos 1 ∷ []))
one-dc = record { dc = record { len = refl; fit = fit }; low = zero_row 15; high = zero_row 240 }
  where
    fit : (i : ℕ) → SFits w32 (at (pos 1 ∷ []) i)
    fit zero = record { sfits = lit< tt }
    fit (suc i) = record { sfits = lit< tt }

pub found : forward 0 (of 1 1) (table 256 (λ i. nine_ones (i / 16) (i % 16))) ≡ dc_only 1 (pos 1 ∷ [])
found =
    let shape = shaped 0 (of 1 1) refl in
    let row = subst (Row 256) bench.0 (row-inverse (mode_of 0) (of 1 1) shape.sized one-dc) in
    sym (((whole_pictures 0 (of 1 1) shape).one_set _ row).only (dc_only 1 (pos 1 ∷ [])) one-dc bench.0)

-- 2 x 2: the high-pass numbers of the first block do not reach the last sample, in any mode
abbrev nothing : Planes
nothing = dc_only 4 (table 4 (λ i. pos 0))

abbrev edited : Planes
edited = record { dc = nothing.dc; low = nothing.low; high = set nothing.high 0 (pos 4096) }

narrow : (mode : ℕ) → high_margin mode ≤ 2
narrow zero = omega arith
narrow (suc mode) = omega arith

pub unreached : (mode : ℕ) → mode ≤ 2 → at (inverse mode (of 2 2) nothing) (31 * 32 + 31) ≡ at (inverse mode (of 2 2) edited) (31 * 32 + 31)
unreached mode h =
    (whole_pictures mode (of 2 2) (record { known = h; sized = sized (of 2 2) refl })).windows nothing edited 31 31 (omega arith)
    (record { blocks = λ b l n w. n (λ k m. sym (get_or-set_other nothing.high 0 (15 * block_order 2 b + k) (pos 4096) (pos 0) (λ e. omega (arith, e, w.row.high, narrow mode)))); macroblocks = λ m l n w. n (refl, λ k l. refl) })

-- ---- a grid of one column of squares has four edge columns, each filtered once, and a grid of one row of squares four edge rows; both have four corners

each-end : (n : ℕ) → each n (λ j. end) ≡ end
unfolding each ◌then◌
each-end zero = refl
each-end (suc n) = rw (each-end n)

pub one_across : (q : ℕ) → filters 1 q ≡ (column_filters 1 q 0 then column_filters 1 q 1 then column_filters 1 q 2 then column_filters 1 q 3) then corner_filters 1 q
unfolding filters square_filters row_filters each ◌then◌
one_across q = rw (each-end (q - 1))

pub one_down : (p : ℕ) → filters p 1 ≡ (row_filters p 0 then row_filters p 1 then row_filters p 2 then row_filters p 3) then corner_filters p 1
unfolding filters square_filters column_filters each ◌then◌
one_down p = refl

-- one square has its corners alone. They do not share a place, since rows and columns 2 and 3 are the last two: all sixteen are different places of the grid
pub corners_tile : (filters 1 1 ≡ corner_filters 1 1) × T (places 16 (corner 4 0 ++ corner 4 2 ++ corner 4 8 ++ corner 4 10))
unfolding filters square_filters row_filters column_filters each ◌then◌
corners_tile = (refl, tt)

-- the numbers 0, 100, 400, 900 and so on, each corner through the lines of Figure 4.13: worked out apart from these definitions
pub corner_values : run (filters 1 1) (table 16 (λ i. pos (100 * (i * i)))) ≡
    pos 420 ∷ pos 922 ∷ pos 1240 ∷ pos 2529 ∷
    pos 1128 ∷ pos 2596 ∷ pos 2898 ∷ pos 5155 ∷
    pos 9491 ∷ pos 13141 ∷ pos 14173 ∷ pos 18609 ∷
    pos 13993 ∷ pos 18615 ∷ pos 19619 ∷ pos 25030 ∷ []
unfolding wrap run_by line_by value_by get put ◌then◌ each rotation four_filter corner_filter_at square_filters row_filters column_filters corner_filters filters table
corner_values = refl
