-- What checks that pass tell: the test of each is false, and so the facts that the tests are for. A list is taken apart by the names of its parts.
use Prim.Native.Nat.{ℕ, zero, suc, ◌*◌, ◌≤◌, ◌<◌}
use mathlib.Core.Path.{◌≡◌, refl}
use mathlib.Core.Bool.{Bool, true, false, ◌||◌}
use mathlib.Core.List.{List, [], ◌∷◌}
use native.Mathlib.Omega.{arith}
use native.Mathlib.Decide.{dec_le}
use native.Mathlib.Nat.{mul-le-mul}
use lib.Dec.{T, ltb, eqb}
use lib.IntN.{ℤ}
use lib.ListN.{length}
use borrow.Author.Tests.{ltb-false, le-ltb, eqb-true, not-false, le-leb, lt-leb, eq-eqb}
use Rattle.picture.specs.declared.size.Size.{Size}
use Rattle.picture.specs.Sizes.{Sized, macroblocks, Shape}
use Rattle.picture.specs.Refusals.{width_range, height_range, dc_length, low_pass_length, high_pass_length, samples_length}
use Rattle.picture.specs.Planes.{Planes, Lengths}
use Rattle.picture.specs.Numbers.{◌if◌, first_of, unlike, outside, mode_check, width_check, height_check, size_checks, shape_checks, dc_check, low_check, high_check, low_checks, plane_checks, sample_check}
use Rattle.picture.proofs.NumberLaws.{both_pass, pass_both}

-- the test of a single check that passes is false, and a false test passes
pub passes : (k : ℕ) (b : Bool) → T (ltb 0 k) → first_of ((k if b) ∷ []) ≡ 0 → b ≡ false
passes k false t e = refl
passes zero true t e = absurd t
passes (suc k) true t e = absurd (omega (arith, e))

pub passing : (k : ℕ) (b : Bool) → b ≡ false → first_of ((k if b) ∷ []) ≡ 0
passing k b e = rw e

pub either_false : (a b : Bool) → a || b ≡ false → (a ≡ false) × (b ≡ false)
either_false false b e = (refl, e)
either_false true b e = absurd (yes e)
  where
    yes : true ≡ false → ⊥
    yes e = let z : ◌≡◌ {A = ℕ} 0 1 = cc in omega arith

pub neither : (a b : Bool) → a ≡ false → b ≡ false → a || b ≡ false
neither a b p q = rw (p, q)

-- a number within its range, and a length as it is wanted
pub within : (k most x : ℕ) → T (ltb 0 k) → first_of ((k if outside most x) ∷ []) ≡ 0 → (0 < x) × (x ≤ most)
within k most x t e = let p = either_false (ltb x 1) (ltb most x) (passes k _ t e) in (ltb-false x 1 p.0, ltb-false most x p.1)

pub is_within : (k most x : ℕ) → 0 < x → x ≤ most → first_of ((k if outside most x) ∷ []) ≡ 0
is_within k most x a b = passing k _ (neither _ _ (le-ltb x 1 a) (le-ltb most x b))

pub like : (a b : ℕ) → unlike a b ≡ false → a ≡ b
like a b e = eqb-true a b (not-false (eqb a b) e)

pub alike : (a b : ℕ) → a ≡ b → unlike a b ≡ false
alike a b e = simp (eq-eqb a b e)

pub fits : (k a b : ℕ) → T (ltb 0 k) → first_of ((k if unlike a b) ∷ []) ≡ 0 → a ≡ b
fits k a b t e = like a b (passes k _ t e)

pub is-fit : (k a b : ℕ) → a ≡ b → first_of ((k if unlike a b) ∷ []) ≡ 0
is-fit k a b e = passing k _ (alike a b e)

-- ---- mode and size

pub known_mode : (mode : ℕ) → first_of (mode_check mode) ≡ 0 → mode ≤ 2
known_mode mode e = case (dec_le mode 2)
  where
    case : Dec (mode ≤ 2) → mode ≤ 2
    case (yes h) = h
    case (no n) = let f = rw (lt-leb mode 2 (omega (arith, n))) at e in absurd (omega (arith, f))

pub mode_known : (mode : ℕ) → mode ≤ 2 → first_of (mode_check mode) ≡ 0
mode_known mode h = simp (le-leb mode 2 h)

pub sized : (size : Size) → first_of (size_checks size) ≡ 0 → Sized size
sized size e =
    let (w, h) = both_pass (width_check size) (height_check size) e in
    let (wide, most-wide) = within width_range 525 size.width.0 tt w in
    let (tall, most-tall) = within height_range 413 size.height.0 tt h in
    record { wide = wide; most-wide = most-wide; tall = tall; most-tall = most-tall }

pub size-passes : {size : Size} → Sized size → first_of (size_checks size) ≡ 0
size-passes {size} s =
    pass_both (width_check size) (height_check size) (is_within width_range 525 size.width.0 s.wide s.most-wide) (is_within height_range 413 size.height.0 s.tall s.most-tall)

pub shaped : (mode : ℕ) (size : Size) → first_of (shape_checks mode size) ≡ 0 → Shape mode size
shaped mode size e = let (m, s) = both_pass (mode_check mode) (size_checks size) e in record { known = known_mode mode m; sized = sized size s }

pub shape_passes : {mode : ℕ} {size : Size} → Shape mode size → first_of (shape_checks mode size) ≡ 0
shape_passes {mode} {size} f = pass_both (mode_check mode) (size_checks size) (mode_known mode f.known) (size-passes f.sized)

-- a picture has at most 525 * 413 macroblocks
pub few : (W H : ℕ) → W ≤ 525 → H ≤ 413 → W * H ≤ 216825
few W H a b = mul-le-mul a b

pub few_macroblocks : {size : Size} → Sized size → macroblocks size ≤ 216825
few_macroblocks {size} s = few size.width.0 size.height.0 s.most-wide s.most-tall

-- ---- lengths

pub low_fits : (n : ℕ) (dc low : List ℤ) → first_of (low_checks n dc low) ≡ 0 → (length dc ≡ n) × (length low ≡ 15 * n)
low_fits n dc low e =
    let (d, l) = both_pass (dc_check n dc) (low_check n low) e in
    (fits dc_length (length dc) n tt d, fits low_pass_length (length low) (15 * n) tt l)

pub planes-fit : (n : ℕ) (s : Planes) → first_of (plane_checks n s) ≡ 0 → Lengths n s
planes-fit n s e =
    let (l, h) = both_pass (low_checks n s.dc s.low) (high_check n s.high) e in
    let (dc, low) = low_fits n s.dc s.low l in
    record { dc = dc; low = low; high = fits high_pass_length (length s.high) (240 * n) tt h }

pub fits-planes : (n : ℕ) (s : Planes) → Lengths n s → first_of (plane_checks n s) ≡ 0
fits-planes n s f =
    pass_both (low_checks n s.dc s.low) (high_check n s.high)
    (pass_both (dc_check n s.dc) (low_check n s.low) (is-fit dc_length (length s.dc) n f.dc) (is-fit low_pass_length (length s.low) (15 * n) f.low))
    (is-fit high_pass_length (length s.high) (240 * n) f.high)

pub samples-fit : (n : ℕ) (samples : List ℤ) → first_of (sample_check n samples) ≡ 0 → length samples ≡ 256 * n
samples-fit n samples e = fits samples_length (length samples) (256 * n) tt e
