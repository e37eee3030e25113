-- Rows as lines of text: a row laid over the rest of the bytes, and rows one behind the other, which grow by one row at a time.
use Prim.Native.Nat.{ℕ, zero, suc, ◌+◌, ◌-◌, ◌*◌, ◌<◌, ◌≤◌}
use mathlib.Core.Path.{◌≡◌, sym, ap, ◌∙◌}
use mathlib.Core.List.{List, [], ◌∷◌, ◌++◌, append-nil, append_assoc}
use native.Mathlib.Omega.{arith}
use native.Mathlib.Numerals.{add-one}
use native.Mathlib.Nat.{zero-add, add_comm, zero-mul, suc-mul, add-sub_cancel_left}
use lib.IntN.{ℤ, pos}
use lib.ListN.{length, get_or, take, drop, length-take, length-drop, length-append, drop_of_length-le, get_or-eq_default}
use lib.Seq.{get_or-take, get_or-drop, drop-drop, take_all, length-take-le}
use lib.Signed.{mag}
use Rattle.lifting.specs.Row.{Row}
use Rattle.decimal.specs.Text.{row, over, written, count}
use native.Mathlib.Decide.{dec_le}
use Rattle.decimal.proofs.Length.{row-at-most}
use Rattle.decimal.proofs.Room.{written-fits, count_fits}
use Rattle.decimal.proofs.Overlay.{then_text}
use Rattle.decode.specs.Shown.{rows}

-- ---- one row

part_fits : {n : ℕ} (xs : List ℤ) → Row n xs → (from w i : ℕ) → mag (get_or (take w (drop from xs)) i (pos 0)) < 2147483648
part_fits xs r from w i =
    elim (dec_le w i) [
      | yes h ↦ rw (get_or-eq_default (take w (drop from xs)) (pos 0) {n = i} (omega (arith, length-take w (drop from xs)))) (omega arith)
      | no h ↦ rw (get_or-take w (drop from xs) i (pos 0) (omega (arith, h)), get_or-drop from xs i (pos 0)) (r.fit (from + i)).sfits
    ]

at_most : (xs : List ℤ) → 0 < length xs → ((i : ℕ) → mag (get_or xs i (pos 0)) < 2147483648) → length (row xs) ≤ 12 * length xs
at_most [] h f = absurd (omega (arith, h))
at_most (x ∷ xs) h f = row-at-most x xs f

module _ (xs : List ℤ) (out : List ℕ) (from w at : ℕ) {n : ℕ} (r : Row n xs) (some : 0 < w) (inside : from + w ≤ length xs) (room : at + 12 * w ≤ length out) where
  pub line-length : length (row (take w (drop from xs))) ≤ 12 * w
  line-length =
      let e : length (take w (drop from xs)) ≡ w = length-take-le w (drop from xs) (omega (arith, length-drop from xs)) in
      omega (arith, at_most (take w (drop from xs)) (omega (arith, e)) (part_fits xs r from w), e)

  free : length (row (take w (drop from xs))) ≤ length (drop at out)
  free = omega (arith, line-length, length-drop at out)

  long : length (drop at out) ≤ length out - at
  long = omega (arith, length-drop at out)

  pub line-count : {k : ℕ} → k ≡ count (row (take (from + w - from) (drop from xs))) (length (take (length out - at) (drop at out))) → k ≡ length (row (take w (drop from xs)))
  line-count e =
      rw (add-sub_cancel_left from w, take_all (length out - at) (drop at out) long) at e
      ∙ count_fits (row (take w (drop from xs))) (length (drop at out)) free

  pub line_laid : {ys : List ℕ} → ys ≡ written (row (take (from + w - from) (drop from xs))) (take (length out - at) (drop at out))
      → take at out ++ (ys ++ drop (length out - at) (drop at out)) ≡ over out at (row (take w (drop from xs)))
  unfolding over
  line_laid e =
      let t = row (take w (drop from xs)) in
      let q = rw (add-sub_cancel_left from w, take_all (length out - at) (drop at out) long) at e in
      rw (q ∙ written-fits t (drop at out) free, drop_of_length-le (drop at out) {i = length out - at} long, zero-add (length t), append-nil, drop-drop (length t) at out)
      (sym (append_assoc (take at out) t (drop (at + length t) out)))

-- ---- one row more

more : (y w : ℕ) (xs : List ℤ) → rows (suc y) w xs ≡ rows y w xs ++ row (take w (drop (y * w) xs))
unfolding rows
more zero w xs = rw (zero-mul w) (append-nil (row (take w xs)))
more (suc y) w xs =
    ap (λ (t : List ℕ). row (take w xs) ++ t) (more y w (drop w xs))
    ∙ rw (drop-drop (y * w) w xs, suc-mul y w, add_comm (y * w) w)
    (sym (append_assoc (row (take w xs)) (rows y w (drop w xs)) (row (take w (drop (w + y * w) xs)))))

rows_more : (y w : ℕ) (xs : List ℤ) → rows (y + 1) w xs ≡ rows y w xs ++ row (take w (drop (y * w) xs))
rows_more y w xs = rw (add-one y) (more y w xs)

module _ (xs : List ℤ) (b o : List ℕ) (w y : ℕ) {at : ℕ} (size : at ≡ length (rows y w xs)) where
  pub next_size : {k : ℕ} → k ≡ length (row (take w (drop (y * w) xs))) → at + k ≡ length (rows (y + 1) w xs)
  next_size e = rw (rows_more y w xs, length-append, size, e)

  pub next_laid : {p : List ℕ} → o ≡ over b 0 (rows y w xs) → p ≡ over o at (row (take w (drop (y * w) xs))) → p ≡ over b 0 (rows (y + 1) w xs)
  next_laid laid e = rw (rows_more y w xs) (then_text b o 0 (rows y w xs) (row (take w (drop (y * w) xs))) (omega arith) laid (omega (arith, size)) e)
