-- Two sets of planes that differ give other samples in the windows of what differs alone.
-- The number at a place of a level's result depends only on the squares within whose margin it lies, since cores and filters act inside their cells. So a sample
-- depends on blocks in whose windows it lies, and the first number of such a block, by the same law one level up, on macroblocks in whose windows the sample lies.
use Prim.Native.Nat.{ℕ, zero, suc, ◌+◌, ◌*◌, ◌/◌, ◌%◌, ◌≤◌, ◌<◌}
use mathlib.Core.Path.{◌≡◌, refl, ◌∙◌, ap}
use mathlib.Core.Bool.{Bool}
use mathlib.Core.Logic.Dec
use mathlib.Core.Logic.{by_cases}
use mathlib.Core.HLevel.{dec→stable}
use native.Mathlib.Omega.{arith}
use native.Mathlib.Decide.{map_dec, ℕ_discrete}
use native.Mathlib.Nat.{mod-lt, div-add-mod', div-lt_iff_lt-mul}
use lib.Arith.{digits_div, digits_mod, digits_lt}
use lib.IntN.{ℤ, ℤ_discrete}
use Rattle.lifting.specs.Program.{at, run}
use Rattle.transform.specs.Level.{cell, level}
use Rattle.picture.specs.Planes.{Planes}
use Rattle.transform.specs.Grids.{grid, coefficients, first_grid, second_grid}
use Rattle.picture.specs.declared.size.Size.{Size}
use Rattle.picture.specs.Sizes.{Shape}
use Rattle.picture.specs.Modes.{filters_one, filters_two}
use Rattle.transform.specs.Transform.{quarter_by, quarter, inverse_by, inverse}
use Rattle.transform.specs.Windows.{Near, Window, high_margin, low_margin, BlockWindow, MacroblockWindow, AlikeInBlock, AlikeInMacroblock, InNoWindow}
use Rattle.transform.proofs.LevelPart.{reach, level_on_part}

-- ---- one level

-- two grids with the same numbers in each square within reach
level_on_grids : (p q y x : ℕ) → y < 4 * q → x < 4 * p → (filtered : Bool) (f g : ℕ → ℕ → ℤ)
    → ((s : ℕ) → s < p * q → Window (reach filtered) 4 (4 * (s / p)) (4 * (s % p)) y x → (k : ℕ) → k < 16 → f s k ≡ g s k)
    → at (run (level filtered p q) (grid p q f)) (cell p y x) ≡ at (run (level filtered p q) (grid p q g)) (cell p y x)
level_on_grids p q y x tall h filtered f g e =
    level_on_part p 0 p q (omega arith) y x tall h filtered (λ l. absurd (omega arith), λ l. absurd (omega arith)) f g (λ a b l m u k n.
    e (a * p + b) (omega (arith, digits_lt l m)) (rw (digits_div a m, digits_mod a m) u) k n ∙ ap (λ c. g (a * p + c) k) (omega arith))
    ∙ ap (at (run (level filtered p q) (grid p q g))) (omega arith)

-- ---- both levels

all_below? : {P : ℕ → Type 0} (n : ℕ) → ((k : ℕ) → Dec (P k)) → Dec ((k : ℕ) → k < n → P k)
all_below? {P} zero d = yes (λ k l. absurd (omega arith))
all_below? {P} (suc n) d = map_dec join (λ h. (h n (omega arith), λ k l. h k (omega arith))) (Dec.and (d n) (all_below? n d))
  where
    join : P n × ((k : ℕ) → k < n → P k) → (k : ℕ) → k < suc n → P k
    join h k l = by_cases (ℕ_discrete k n) (λ e. rw e h.0) (λ o. h.1 k (omega arith))

-- the margins of the windows are those of the levels: a place of level one's grid is four samples wide
pub margins : (mode : ℕ) → mode ≤ 2 → (high_margin mode ≡ reach (filters_two mode)) × (low_margin mode ≡ 4 * reach (filters_one mode) + reach (filters_two mode))
margins zero h = (refl, refl)
margins (suc zero) h = (refl, refl)
margins (suc (suc zero)) h = (refl, refl)
margins (suc (suc (suc n))) h = absurd (omega arith)

-- what is near a block that is near a macroblock
pub near-near : (m n a r y : ℕ) → Near m (4 * a) 4 r → Near n (4 * r) 4 y → Near (4 * m + n) (16 * a) 16 y
near-near m n a r y h k = record { low = omega arith; high = omega arith }

pub same-coefficients : {a b : ℤ} {f g : ℕ → ℤ} → a ≡ b → ((k : ℕ) → k < 15 → f k ≡ g k) → (k : ℕ) → k < 16 → coefficients a f k ≡ coefficients b g k
same-coefficients e h zero l = e
same-coefficients e h (suc k) l = h k (omega arith)

module _ {mode : ℕ} {size : Size} (shape : Shape mode size) (s t : Planes) (y x : ℕ) (out : InNoWindow mode size s t y x) where
  abbrev W : ℕ
  W = size.width.0

  abbrev H : ℕ
  H = size.height.0

  block_alike : (b : ℕ) → b < 16 * (W * H) → BlockWindow mode W b y x → AlikeInBlock W s t b
  block_alike b l w = dec→stable (all_below? 15 (λ k. ℤ_discrete _ _)) (λ n. out.blocks b l n w)

  macroblock_alike : (m : ℕ) → m < W * H → MacroblockWindow mode W m y x → AlikeInMacroblock s t m
  macroblock_alike m l w = dec→stable (Dec.and (ℤ_discrete _ _) (all_below? 15 (λ k. ℤ_discrete _ _))) (λ n. out.macroblocks m l n w)

  -- the first number of a block in whose window the sample lies
  view_alike : (b : ℕ) → b < 16 * (W * H) → BlockWindow mode W b y x → at (quarter mode size s.dc s.low) b ≡ at (quarter mode size t.dc t.low) b
  unfolding quarter_by first_grid
  view_alike b low w = rw (div-add-mod' b (4 * W)) at e
    where
      alike : (m : ℕ) → m < W * H → Window (reach (filters_one mode)) 4 (4 * (m / W)) (4 * (m % W)) (b / (4 * W)) (b % (4 * W)) → AlikeInMacroblock s t m
      alike m l u =
          let (hi, lo) = margins mode shape.known in
          let v = rw hi at w in
          macroblock_alike m l (rw lo (record { row = near-near _ _ (m / W) (b / (4 * W)) y u.row v.row; column = near-near _ _ (m % W) (b % (4 * W)) x u.column v.column }))

      e : at (quarter mode size s.dc s.low) (cell W (b / (4 * W)) (b % (4 * W))) ≡ at (quarter mode size t.dc t.low) (cell W (b / (4 * W)) (b % (4 * W)))
      e = level_on_grids W H (b / (4 * W)) (b % (4 * W)) ((div-lt_iff_lt-mul {k = 4 * W} (omega arith)).1 (omega arith)) (mod-lt b (omega arith)) (filters_one mode) _ _ (λ m l u. same-coefficients (alike m l u).0 (alike m l u).1)

  pub sample_alike : y < 16 * H → x < 16 * W → at (inverse mode size s) (cell (4 * W) y x) ≡ at (inverse mode size t) (cell (4 * W) y x)
  unfolding inverse_by second_grid
  sample_alike tall h =
      level_on_grids (4 * W) (4 * H) y x (omega arith) (omega arith) (filters_two mode) _ _ (λ b l u.
      let w = rw (← (margins mode shape.known).0) at u in
      same-coefficients (view_alike b (omega arith) w) (block_alike b (omega arith) w))
