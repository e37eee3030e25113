-- The number at a place of a level's result on a grid of p squares across is that at the place's twin of the level's result on a wider grid that has the same numbers
-- in the squares within whose reach the place lies, if no seam lies within its reach. With k = 0 and P = p this is the law of windows on one grid.
use Prim.Native.Nat.{ℕ, ◌+◌, ◌*◌, ◌/◌, ◌%◌, ◌≤◌, ◌<◌}
use mathlib.Core.Path.{◌≡◌, refl, sym, ◌∙◌, ap₂}
use mathlib.Core.Bool.{Bool, true, false}
use mathlib.Core.Logic.Dec
use mathlib.Core.List.{List}
use native.Mathlib.Omega.{arith}
use native.Mathlib.Decide.{ℕ_discrete, map_dec, dec_le, dec_lt}
use native.Mathlib.Nat.{add-zero}
use lib.Arith.{digits_div, digits_mod, digits_lt}
use lib.ListN.{length}
use lib.IntN.{ℤ}
use Rattle.lifting.specs.Program.{at, run, run_by}
use Rattle.lifting.proofs.Compose.{run_then}
use Rattle.transform.specs.Level.{cell, cores, filters, level}
use Rattle.transform.specs.Grids.{grid, square_of, coefficient_of}
use Rattle.transform.specs.Windows.{Near, Window}
use Rattle.picture.proofs.Table.{at_table}
use Rattle.transform.proofs.Grid.{length-grid}
use Rattle.transform.proofs.Cells.{zone}
use Rattle.lifting.proofs.Between.{Alike}
use Rattle.transform.proofs.Part.{Twin, cores_like, filters_like}

-- how far beyond a square's own places its numbers reach
abbrev pub reach : Bool → ℕ
reach true = 2
reach false = 0

pub near? : (m first count y : ℕ) → Dec (Near m first count y)
near? m first count y =
    map_dec (λ h. record { low = h.0; high = h.1 }) (λ n. (n.low, n.high)) (Dec.and (dec_le first (y + m)) (dec_lt y (first + count + m)))

pub window? : (m side r c y x : ℕ) → Dec (Window m side r c y x)
window? m side r c y x = map_dec (λ h. record { row = h.0; column = h.1 }) (λ w. (w.row, w.column)) (Dec.and (near? m r side y) (near? m c side x))

-- the squares of a level within reach of row y, column x
abbrev pub Reaching : Bool → ℕ → ℕ → ℕ → ℕ → Type 0
Reaching filtered y x a b = Window (reach filtered) 4 (4 * a) (4 * b) y x

-- rows (or columns) r and y in one cell of the filters
pub same_zone_near : (r y : ℕ) → zone 2 r ≡ zone 2 y → Near 2 (4 * zone 0 r) 4 y
same_zone_near r y e = record { low = omega arith; high = omega arith }

pub own-near : (y : ℕ) → Near 0 (4 * zone 0 y) 4 y
own-near y = record { low = omega arith; high = omega arith }

-- ---- a grid by rows and columns

module _ (p r c : ℕ) (h : c < 4 * p) where
  pub square-at : square_of p (cell p r c) ≡ r / 4 * p + c / 4
  square-at = rw (digits_div r h, digits_mod r h)

  pub coefficient_at : coefficient_of p (cell p r c) ≡ r % 4 * 4 + c % 4
  coefficient_at = rw (digits_div r h, digits_mod r h)

  pub cell-low : (q : ℕ) → r < 4 * q → cell p r c < 16 * (p * q)
  cell-low q l = omega (arith, digits_lt l h)

  pub grid-at : (q : ℕ) (f : ℕ → ℕ → ℤ) → r < 4 * q → at (grid p q f) (cell p r c) ≡ f (r / 4 * p + c / 4) (r % 4 * 4 + c % 4)
  unfolding grid
  grid-at q f l = at_table (16 * (p * q)) _ (cell p r c) (cell-low q l) ∙ ap₂ f square-at coefficient_at

-- ---- one place

module _ (p k P q : ℕ) (fits : k + p ≤ P) (y x : ℕ) (tall : y < 4 * q) (h : x < 4 * p) where
  -- no seam within m columns
  abbrev pub Clear : ℕ → Type 0
  Clear m = (0 < k → m ≤ x) × (k + p < P → x + m < 4 * p)

  abbrev Own : ℕ → ℕ → Type 0
  Own a b = (a ≡ zone 2 y) × (b ≡ zone 2 x)

  near : {i j : ℕ} → Twin 2 p k P q Own i j → Twin 0 p k P q (Reaching true y x) i j
  near t = record {
    row = t.row;
    column = t.column;
    low = t.low;
    narrow = t.narrow;
    small = t.small;
    wide = t.wide;
    within = record { row = same_zone_near t.row y t.within.0; column = same_zone_near t.column x t.within.1 };
  }

  near_alike : {v w : List ℤ} → Alike (Twin 0 p k P q (Reaching true y x)) v w → Alike (Twin 2 p k P q Own) v w
  near_alike a = record { ends = λ t. a.ends (near t); same = λ t. a.same (near t) }

  cores_alike : (filtered : Bool) {v w : List ℤ} → Alike (Twin 0 p k P q (Reaching filtered y x)) v w
      → Alike (Twin 0 p k P q (Reaching filtered y x)) (run (cores p q) v) (run (cores P q) w)
  cores_alike filtered a = (cores_like p k P q fits (Reaching filtered y x) (λ r c. window? (reach filtered) 4 (4 * r) (4 * c) y x)).runs _ _ a

  filters_alike : Clear 2 → {v w : List ℤ} → Alike (Twin 2 p k P q Own) v w → Alike (Twin 2 p k P q Own) (run (filters p q) v) (run (filters P q) w)
  filters_alike clear a =
      (filters_like p k P q fits Own (λ r c. Dec.and (ℕ_discrete r (zone 2 y)) (ℕ_discrete c (zone 2 x))) (omega arith) (omega arith)
      (λ l a o. let m = clear.0 l in omega (arith, o.1))
      (λ l a o. let m = clear.1 l in omega (arith, o.1))
      ).runs _ _ a

  pub level-at : (filtered : Bool) → Clear (reach filtered) → (v w : List ℤ) → Alike (Twin 0 p k P q (Reaching filtered y x)) v w
      → at (run (level filtered p q) v) (cell p y x) ≡ at (run (level filtered P q) w) (cell P y (4 * k + x))
  unfolding level run_by
  level-at false clear v w a =
      rw (run_then (cores p q) _ v, run_then (cores P q) _ w)
      ((cores_alike false a).same (record { row = y; column = x; low = tall; narrow = h; small = refl; wide = refl; within = record { row = own-near y; column = own-near x } }))
  level-at true clear v w a =
      rw (run_then (cores p q) _ v, run_then (cores P q) _ w)
      ((filters_alike clear (near_alike (cores_alike true a))).same (record { row = y; column = x; low = tall; narrow = h; small = refl; wide = refl; within = (refl, refl) }))

  pub level_on_part : (filtered : Bool) → Clear (reach filtered) → (f g : ℕ → ℕ → ℤ)
      → ((a b : ℕ) → a < q → b < p → Window (reach filtered) 4 (4 * a) (4 * b) y x → (t : ℕ) → t < 16 → f (a * p + b) t ≡ g (a * P + (k + b)) t)
      → at (run (level filtered p q) (grid p q f)) (cell p y x) ≡ at (run (level filtered P q) (grid P q g)) (cell P y (4 * k + x))
  level_on_part filtered clear f g e = level-at filtered clear (grid p q f) (grid P q g) (record { ends = λ t. (λ l. (inside t).1, λ l. (inside t).0); same = same })
    where
      inside : {i j : ℕ} → Twin 0 p k P q (Reaching filtered y x) i j → (i < length (grid p q f)) × (j < length (grid P q g))
      inside t =
          let n = t.narrow in (
            rw (length-grid p q f, t.small) (cell-low p t.row t.column n q t.low),
            rw (length-grid P q g, t.wide) (cell-low P t.row (4 * k + t.column) (omega (arith, fits, n)) q t.low),
          )

      same : {i j : ℕ} → Twin 0 p k P q (Reaching filtered y x) i j → at (grid p q f) i ≡ at (grid P q g) j
      same t =
          let n = t.narrow in
          let l = t.low in
          let r = t.row in
          let c = t.column in
          let u : (4 * k + c) / 4 ≡ k + c / 4 = omega arith in
          let d : (4 * k + c) % 4 ≡ c % 4 = omega arith in
          rw (t.small, t.wide)
          (grid-at p r c n q f l
          ∙ e (r / 4) (c / 4) (omega arith) (omega arith) (simp add-zero at t.within) (r % 4 * 4 + c % 4) (omega arith)
          ∙ ap₂ (λ a b. g (r / 4 * P + a) (r % 4 * 4 + b)) (sym u) (sym d)
          ∙ sym (grid-at P r (4 * k + c) (omega (arith, fits, n)) q g l))
