-- Pieces of a list, filled one after another: what is put in one is read there again, and the others stay, since no place is in two.
-- The pieces are the squares side by side in 64 numbers of 16 columns, or the lanes of a row of sixteen.
use Prim.Native.Nat.{ℕ, ◌+◌, ◌-◌, ◌*◌, ◌/◌, ◌%◌, ◌<◌}
use mathlib.Core.Path.{◌≡◌, refl, sym, ◌∙◌, ap}
use mathlib.Core.Logic.{by_cases}
use mathlib.Core.List.{List}
use native.Mathlib.Omega.{arith}
use native.Mathlib.Decide.{ℕ_discrete}
use lib.Dec.{T}
use lib.ListN.{length}
use lib.IntN.{ℤ}
use Rattle.lifting.specs.Program.{get, put}
use Rattle.lifting.specs.Valid.{places}
use Rattle.lifting.proofs.Reverse.{get-put, length-put}
use Rattle.lifting.proofs.Between.{All, all_map}
use Rattle.lifting.proofs.Locality.{agree_refl, get-same, put_keeps}
use Rattle.figures.specs.Block.{four, flat}
use Rattle.transform.specs.Level.{strip, square}
use Rattle.transform.proofs.Levels.{rising_places, square-places}
use Rattle.transform.proofs.Cells.{all-strip, all-square}
use Rattle.lanes.specs.Lanes.{InLanes, SquareBy}

-- the first n pieces of `out` hold F 0, .., F (n - 1)
abbrev pub Pieces : (ℕ → List ℕ) → (ℕ → List ℤ) → ℕ → List ℤ → Type 0
Pieces piece F n out = (l : ℕ) → l < n → get (piece l) out ≡ F l

-- what is put in a piece is there, and the other pieces stay: `part` tells the piece of a place
piece_own : (piece : List ℕ) (out x u : List ℤ) → T (places (length out) piece) → length x ≡ length piece → u ≡ put piece x out → get piece u ≡ x
piece_own piece out x u room long f = ap (get piece) f ∙ get-put piece x out room long refl

piece_kept : (piece : ℕ → List ℕ) (part : ℕ → ℕ) (l n : ℕ) (out x u : List ℤ) → All (λ i. part i ≡ l) (piece l) → All (λ i. part i ≡ n) (piece n) → ¬ (l ≡ n) → u ≡ put (piece n) x out
    → get (piece l) u ≡ get (piece l) out
piece_kept piece part l n out x u inside other o f =
    ap (get (piece l)) f
    ∙ get-same (λ i. part i ≡ l) (piece l) inside
    (put_keeps (λ i. part i ≡ l) (piece n) x (all_map {P = λ i. part i ≡ n} {Q = λ i. ¬ (part i ≡ l)} (piece n) (λ i a b. o (sym b ∙ a)) other) agree_refl)

pieces_more : (piece : ℕ → List ℕ) (part : ℕ → ℕ) (F : ℕ → List ℤ) (n : ℕ) (out x u : List ℤ) → ((l : ℕ) → l < n + 1 → All (λ i. part i ≡ l) (piece l)) → T (places (length out) (piece n))
    → x ≡ F n → length x ≡ length (piece n) → u ≡ put (piece n) x out → Pieces piece F n out → Pieces piece F (n + 1) u
pieces_more piece part F n out x u inside room e long f h l k = by_cases (ℕ_discrete l n) here (λ o. there o ∙ h l (omega (arith, o)))
  where
    here : l ≡ n → get (piece l) u ≡ F l
    here q = rw q (piece_own (piece n) out x u room long f ∙ e)

    there : ¬ (l ≡ n) → get (piece l) u ≡ get (piece l) out
    there o = piece_kept piece part l n out x u (inside l k) (inside n (omega arith)) o f

-- ---- squares

square_in_lem : (l : ℕ) → l < 4 → All (λ i. i % 16 / 4 ≡ l) (square 16 (4 * l))
square_in_lem l h =
    all-square (λ i. i % 16 / 4 ≡ l) 16 (4 * l) (row (4 * l) (omega arith)) (row (4 * l + 16) (omega arith)) (row (4 * l + 16 + 16) (omega arith)) (row (4 * l + 16 + 16 + 16) (omega arith))
  where
    row : (i : ℕ) → i % 16 ≡ 4 * l → All (λ k. k % 16 / 4 ≡ l) (strip 1 i)
    row i e = all-strip (λ k. k % 16 / 4 ≡ l) 1 i (omega arith) (omega arith) (omega arith) (omega arith)

abbrev pub Beside : (ℕ → List ℤ) → ℕ → List ℤ → Type 0
Beside = Pieces (λ l. square 16 (4 * l))

pub beside_more : (F : ℕ → List ℤ) (n : ℕ) (out x u : List ℤ) → n < 4 → length out ≡ 64 → x ≡ F n → length (F n) ≡ 16 → u ≡ put (square 16 (4 * n)) x out → Beside F n out → Beside F (n + 1) u
unfolding square
beside_more F n out x u few long e sixteen f h =
    pieces_more (λ l. square 16 (4 * l)) (λ i. i % 16 / 4) F n out x u (λ l k. square_in_lem l (omega arith)) (square-places 16 (4 * n) (length out) (omega arith) (omega arith)) e (ap length e ∙ sixteen) f h

pub square_own : (n : ℕ) (out x u : List ℤ) → n < 4 → length out ≡ 64 → length x ≡ 16 → u ≡ put (square 16 (4 * n)) x out → get (square 16 (4 * n)) u ≡ x
unfolding square
square_own n out x u few long sixteen f = piece_own (square 16 (4 * n)) out x u (square-places 16 (4 * n) (length out) (omega arith) (omega arith)) sixteen f

pub square_kept : (l n : ℕ) (out x u : List ℤ) → l < 4 → n < 4 → ¬ (l ≡ n) → u ≡ put (square 16 (4 * n)) x out → get (square 16 (4 * l)) u ≡ get (square 16 (4 * l)) out
square_kept l n out x u h k o f = piece_kept (λ l. square 16 (4 * l)) (λ i. i % 16 / 4) l n out x u (square_in_lem l h) (square_in_lem n k) o f

-- where R says that what comes of a square is g of it
pub squares_by : {R : List (List ℤ) → List (List ℤ) → Type 0} {grid : List ℤ} {w i : ℕ} {out : List ℤ} (g : List ℤ → List ℤ) → ((b c : List (List ℤ)) → R b c → flat c ≡ g (flat b))
    → ((l : ℕ) → l < 4 → SquareBy R grid w i out l) → (l : ℕ) → l < 4 → get (square 16 (4 * l)) out ≡ g (get (square w (i + 4 * l)) grid)
squares_by g says each l h = let s = each l h in s.stored ∙ says s.block s.made s.by ∙ ap g s.read

-- ---- lanes of a row

lane_in : (l : ℕ) → l < 4 → All (λ i. 3 - i / 4 ≡ l) (strip 1 (12 - 4 * l))
lane_in l h = all-strip (λ i. 3 - i / 4 ≡ l) 1 (12 - 4 * l) (omega arith) (omega arith) (omega arith) (omega arith)

lane_more : (s : List ℤ) (step from n i j : ℕ) (row x u : List ℤ) → n < 4 → length row ≡ 16 → i ≡ 12 - 4 * n → j ≡ from + step * n → four x ≡ get (strip 1 j) s → u ≡ put (strip 1 i) (four x) row
    → Pieces (λ l. strip 1 (12 - 4 * l)) (λ l. get (strip 1 (from + step * l)) s) n row → Pieces (λ l. strip 1 (12 - 4 * l)) (λ l. get (strip 1 (from + step * l)) s) (n + 1) u
lane_more s step from n i j row x u few long p q read stored h =
    pieces_more (λ l. strip 1 (12 - 4 * l)) (λ k. 3 - k / 4) (λ l. get (strip 1 (from + step * l)) s) n row (four x) u (λ l k. lane_in l (omega arith)) room
    (read ∙ ap (λ (k : ℕ). get (strip 1 k) s) q) refl (stored ∙ ap (λ (k : ℕ). put (strip 1 k) (four x) row) p) h
  where
    room : T (places (length row) (strip 1 (12 - 4 * n)))
    room = rising_places (12 - 4 * n) (length row) (strip 1 (12 - 4 * n)) (omega arith, (omega arith, (omega arith, (omega arith, omega arith))))

pub held : (s : List ℤ) (step from : ℕ) (v0 v1 v2 v3 v4 p q r t : List ℤ) → length v0 ≡ 16 → four p ≡ get (strip 1 from) s → v1 ≡ put (strip 1 12) (four p) v0
    → four q ≡ get (strip 1 (from + step)) s → v2 ≡ put (strip 1 8) (four q) v1 → four r ≡ get (strip 1 (from + step + step)) s → v3 ≡ put (strip 1 4) (four r) v2
    → four t ≡ get (strip 1 (from + step + step + step)) s → v4 ≡ put (strip 1 0) (four t) v3 → InLanes s step from v4
held s step from v0 v1 v2 v3 v4 p q r t long a b c d e f g h = record { len = ap length h ∙ length-put _ _ v3 ∙ long3; own = all }
  where
    long1 : length v1 ≡ 16
    long1 = ap length b ∙ length-put (strip 1 12) (four p) v0 ∙ long

    long2 : length v2 ≡ 16
    long2 = ap length d ∙ length-put (strip 1 8) (four q) v1 ∙ long1

    long3 : length v3 ≡ 16
    long3 = ap length f ∙ length-put (strip 1 4) (four r) v2 ∙ long2

    all : Pieces (λ l. strip 1 (12 - 4 * l)) (λ l. get (strip 1 (from + step * l)) s) 4 v4
    all =
        lane_more s step from 3 0 _ v3 t v4 (omega arith) long3 refl (omega arith) g h
        (lane_more s step from 2 4 _ v2 r v3 (omega arith) long2 refl (omega arith) e f
        (lane_more s step from 1 8 _ v1 q v2 (omega arith) long1 refl (omega arith) c d
        (lane_more s step from 0 12 _ v0 p v1 (omega arith) long refl (omega arith) a b (λ l k. absurd (omega arith)))))
