-- How far a row is written: the text so far, laid over the front of the bytes, and the row of the numbers that are left make up the whole row.
use Rattle.std.proofs.Common.{◌≡◌, ℕ, suc, ◌+◌, ◌<◌, ◌≤◌, List, [], ◌++◌, length, get_or, drop, ℤ, pos, refl, ap, ◌∙◌, sym, append_assoc, add-one, arith, length-append, length-drop, drop-cons}
use lib.ListN.{drop_of_length-le}
use Rattle.decimal.specs.Text.{ascii, decimal, row, over}
use Rattle.decimal.proofs.Overlay.{then_text}
use Rattle.decimal.proofs.Rows.{row_bytes, bytes_at}

-- of the row xs the first i numbers are written to the front of b, which is now o, up to `at`
pub record SoFar (xs : List ℤ) (b o : List ℕ) (at i : ℕ) : Type 0 where
  pub text : List ℕ
  pub size : at ≡ length text
  pub laid : o ≡ over b 0 text
  pub rest : text ++ row (drop i xs) ≡ row xs

pub start : (xs : List ℤ) (b : List ℕ) → SoFar xs b b 0 0
unfolding over
start xs b = record { text = []; size = refl; laid = refl; rest = refl }

module _ (xs : List ℤ) {b o : List ℕ} {at i : ℕ} (s : SoFar xs b o at i) where
  -- what is left fits where the whole row does
  pub left : at + length (row (drop i xs)) ≡ length (row xs)
  left = rw s.size (sym (length-append s.text (row (drop i xs))) ∙ ap length s.rest)

  grow : (t : List ℕ) {p : List ℕ} {e : ℕ} (j : ℕ) → row (drop i xs) ≡ t ++ row (drop j xs) → p ≡ over o at t → e ≡ at + length t → SoFar xs b p e j
  grow t j q l e = record {
    text = s.text ++ t;
    size = simp length-append (omega (arith, e, s.size));
    laid = then_text b o 0 s.text t (omega arith) s.laid (omega (arith, s.size)) l;
    rest = append_assoc s.text t (row (drop j xs)) ∙ ap (λ (r : List ℕ). s.text ++ r) (sym q) ∙ s.rest;
  }

  module _ {p : List ℕ} {e : ℕ} (l : p ≡ over o at (decimal (get_or xs i (pos 0)))) (f : e ≡ at + length (decimal (get_or xs i (pos 0)))) where
    -- the last number
    pub last : i < length xs → length xs ≤ i + 1 → SoFar xs b p e (i + 1)
    unfolding row
    last h k = grow (decimal (get_or xs i (pos 0))) (i + 1) (rw (add-one i, drop-cons xs i (pos 0) h, drop_of_length-le xs {i = suc i} (omega arith))) l f

    -- a number and the space behind it
    pub on : {q : List ℕ} {g : ℕ} → i + 1 < length xs → at ≤ length o → q ≡ over p e (ascii " ") → g ≡ e + 1 → SoFar xs b q g (i + 1)
    unfolding row
    on h k r w =
        let x = decimal (get_or xs i (pos 0)) in
        grow (x ++ ascii " ") (i + 1) (rw (add-one i, drop-cons xs i (pos 0) (omega arith), drop-cons xs (suc i) (pos 0) (omega arith)))
        (then_text o p at x (ascii " ") k l f r) (simp length-append (omega arith))

  -- the newline
  pub newline : length xs ≤ i → row (drop i xs) ≡ ascii "\n"
  unfolding row
  newline h = rw (drop_of_length-le xs h)

  pub whole : {p : List ℕ} → length xs ≤ i → p ≡ over o at (ascii "\n") → p ≡ over b 0 (row xs)
  whole h l = then_text b o 0 s.text (ascii "\n") (omega arith) s.laid (omega (arith, s.size)) l ∙ ap (over b 0) (ap (λ (r : List ℕ). s.text ++ r) (sym (newline h)) ∙ s.rest)

  -- a number that is left has room in the row, and a byte behind it
  pub room_at : i < length xs → at + length (decimal (get_or xs i (pos 0))) < length (row xs)
  room_at h = omega (arith, left, row_bytes (drop i xs) (simp length-drop (omega arith)), bytes_at xs i h)
