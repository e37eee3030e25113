-- Where the numbers of the planes stand: pictures that see the order of macroblocks, blocks and coefficients, and the quarter view in each mode. The values are those of rust/reference.
use Rattle.std.specs.Prelude.{ℕ, ◌+◌, ◌*◌, ◌/◌, ◌%◌, ◌≡◌, List, [], ◌∷◌, ℤ, pos, neg_ℤ}
use Rattle.lifting.specs.Program.{at}
use Rattle.picture.specs.Planes.{Planes, planes}
use Rattle.picture.specs.Table.{table}
use Rattle.transform.specs.Transform.{quarter, inverse}
use Rattle.corollaries.specs.Sizes.{of}

abbrev pub minus : ℕ → ℤ
minus n = neg_ℤ (pos n)

abbrev pub zeros : ℕ → List ℤ
zeros n = table n (λ i. pos 0)

-- n numbers 0, 1, 4, 9, ..
abbrev pub squares : ℕ → List ℤ
squares n = table n (λ i. pos (i * i))

-- ---- DC 1000 and low-pass 10, 40, 90, ..: another order of the low-pass numbers gives another view

abbrev pub LowPassOrder : Type 0
LowPassOrder =
    quarter 0 (of 1 1) (pos 1000 ∷ []) (table 15 (λ k. pos (10 * ((k + 1) * (k + 1))))) ≡
    pos 2387 ∷ minus 849 ∷ pos 772 ∷ pos 246 ∷
    minus 2691 ∷ pos 1465 ∷ minus 384 ∷ pos 293 ∷
    pos 1541 ∷ minus 222 ∷ pos 461 ∷ pos 257 ∷
    minus 141 ∷ pos 461 ∷ pos 215 ∷ pos 187 ∷ []

-- ---- 2 x 2 in mode 0, all planes full: the first sample of each of the 8 x 8 blocks

abbrev pub full : Planes
full = planes (pos 1000 ∷ minus 2000 ∷ pos 3000 ∷ minus 4000 ∷ []) (squares 60) (table 960 (λ i. pos (i * i % 101)))

abbrev pub first_samples : List ℤ → List ℤ
first_samples samples = table 64 (λ b. at samples (b / 8 * 4 * 32 + b % 8 * 4))

abbrev pub BlockOrder : Type 0
BlockOrder =
    first_samples (inverse 0 (of 2 2) full) ≡
    pos 224 ∷ pos 214 ∷ pos 243 ∷ pos 289 ∷ pos 443 ∷ minus 106 ∷ pos 139 ∷ pos 69 ∷
    pos 184 ∷ pos 280 ∷ pos 158 ∷ pos 242 ∷ minus 327 ∷ pos 147 ∷ minus 24 ∷ pos 84 ∷
    pos 279 ∷ pos 205 ∷ pos 274 ∷ pos 247 ∷ pos 137 ∷ pos 6 ∷ pos 48 ∷ pos 3 ∷
    pos 262 ∷ pos 124 ∷ pos 260 ∷ pos 232 ∷ pos 39 ∷ pos 14 ∷ pos 113 ∷ pos 32 ∷
    pos 1493 ∷ minus 75 ∷ pos 579 ∷ pos 360 ∷ pos 2187 ∷ minus 789 ∷ pos 340 ∷ minus 124 ∷
    minus 259 ∷ pos 533 ∷ pos 190 ∷ pos 333 ∷ minus 1098 ∷ pos 113 ∷ minus 423 ∷ minus 190 ∷
    pos 466 ∷ pos 266 ∷ pos 330 ∷ pos 328 ∷ pos 314 ∷ minus 288 ∷ minus 184 ∷ minus 164 ∷
    pos 281 ∷ pos 314 ∷ pos 343 ∷ pos 197 ∷ minus 276 ∷ minus 150 ∷ minus 195 ∷ minus 222 ∷ []

-- ---- the quarter view of 2 x 1: mode 1 filters no level that it goes through, and mode 2 does

abbrev pub view_in : ℕ → List ℤ
view_in mode = quarter mode (of 2 1) (pos 1000 ∷ minus 2000 ∷ []) (squares 30)

abbrev pub QuarterViews : Type 0
QuarterViews =
    (view_in 1 ≡
    pos 420 ∷ pos 159 ∷ pos 292 ∷ pos 248 ∷ pos 1044 ∷ minus 1073 ∷ minus 207 ∷ minus 508 ∷
    minus 1 ∷ pos 358 ∷ pos 196 ∷ pos 255 ∷ minus 1601 ∷ minus 183 ∷ minus 773 ∷ minus 559 ∷
    pos 367 ∷ pos 208 ∷ pos 270 ∷ pos 251 ∷ minus 99 ∷ minus 706 ∷ minus 502 ∷ minus 546 ∷
    pos 216 ∷ pos 269 ∷ pos 247 ∷ pos 245 ∷ minus 640 ∷ minus 510 ∷ minus 558 ∷ minus 581 ∷ [])
    × (view_in 2 ≡
    pos 522 ∷ pos 149 ∷ minus 212 ∷ pos 168 ∷ pos 1392 ∷ minus 730 ∷ minus 298 ∷ minus 736 ∷
    pos 41 ∷ pos 417 ∷ pos 510 ∷ minus 122 ∷ minus 1502 ∷ minus 495 ∷ minus 809 ∷ minus 626 ∷
    pos 413 ∷ pos 233 ∷ pos 112 ∷ pos 35 ∷ pos 149 ∷ minus 639 ∷ minus 627 ∷ minus 677 ∷
    pos 279 ∷ pos 354 ∷ pos 260 ∷ minus 28 ∷ minus 448 ∷ minus 578 ∷ minus 653 ∷ minus 680 ∷ [])
