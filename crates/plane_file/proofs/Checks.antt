-- What the checks of a header, of load and of save tell where they pass; and the answer of a header by its number.
use Prim.Native.Nat.{ℕ, zero, suc, ◌≤◌}
use mathlib.Core.Path.{◌≡◌, refl, sym, ◌∙◌}
use mathlib.Core.List.{List, ◌++◌}
use native.Mathlib.Omega.{arith}
use lib.ListN.{length}
use borrow.Author.Tests.{ltb-false, le-ltb, eq-eqb, ne_eqb}
use Rattle.picture.specs.declared.refusals.Refusal.{Refusal}
use Rattle.picture.specs.declared.size.Size.{Size}
use Rattle.picture.specs.Sizes.{macroblocks, Shape}
use Rattle.picture.specs.Planes.{Planes, Lengths}
use Rattle.picture.specs.Refusals.{number_of_refusal, file_too_short, last_word, offsets, file_length}
use Rattle.picture.specs.Numbers.{first_of, settled, shape_checks, plane_checks}
use Rattle.picture.proofs.CheckLaws.{passes, passing, either_false, neither, like, alike, fits, is-fit, shaped, shape_passes, fits-planes}
use Rattle.picture.proofs.NumberLaws.{refused-first, passed_first, both_pass, pass_both, settled-done}
use Rattle.picture.proofs.AnswerLaws.{refused-keeps}
use Rattle.plane_file.specs.Header.{words_of, mode_in, size_in, header_of, answer}
use Rattle.plane_file.specs.Layout.{header_bytes, dc_offset, low_offset, high_offset, total}
use Rattle.plane_file.specs.Numbers.{last_check, offsets_check, layout_checks, word_checks, short_check, start_checks, total_check, count_in, header_number, save_number}

-- a header's words as its checks let them through, in bytes of the length that they say
pub record HeaderFits (bytes : List ℕ) : Type 0 where
  pub enough : header_bytes ≤ length bytes
  pub shape : Shape (mode_in bytes) (size_in bytes)
  pub last : (words_of bytes).last ≡ 0
  pub dc : (words_of bytes).dc ≡ dc_offset
  pub low : (words_of bytes).low ≡ low_offset (count_in bytes)
  pub high : (words_of bytes).high ≡ high_offset (count_in bytes)
  pub end : (words_of bytes).total ≡ total (count_in bytes)
  pub whole : length bytes ≡ total (count_in bytes)

-- the checks of the words, where those of a header's start pass, whatever checks follow
words_pass : (bytes more : List ℕ) → first_of (start_checks bytes ++ more) ≡ 0 → first_of (word_checks (words_of bytes)) ≡ 0
words_pass bytes more e = (both_pass (short_check bytes) (word_checks (words_of bytes)) (both_pass (start_checks bytes) more e).0).1

pub start_shape : (bytes more : List ℕ) → first_of (start_checks bytes ++ more) ≡ 0 → Shape (mode_in bytes) (size_in bytes)
start_shape bytes more e =
    shaped (mode_in bytes) (size_in bytes) (both_pass (shape_checks (mode_in bytes) (size_in bytes)) (layout_checks (words_of bytes)) (words_pass bytes more e)).0

pub header-fits : (bytes : List ℕ) → header_number bytes ≡ 0 → HeaderFits bytes
unfolding header_number
header-fits bytes e =
    let more = total_check (count_in bytes) (length bytes) in
    let (start, length-passes) = both_pass (start_checks bytes) more e in
    let layout = (both_pass (shape_checks (mode_in bytes) (size_in bytes)) (layout_checks (words_of bytes)) (words_pass bytes more e)).1 in
    let (last, placed) = both_pass (last_check (words_of bytes)) (offsets_check (words_of bytes)) layout in
    let m = either_false _ _ (passes offsets _ tt placed) in
    let h = either_false _ _ m.0 in
    let d = either_false _ _ h.0 in
    record {
      enough = ltb-false (length bytes) header_bytes (passes file_too_short _ tt (both_pass (short_check bytes) (word_checks (words_of bytes)) start).0);
      shape = start_shape bytes more e;
      last = fits last_word (words_of bytes).last 0 tt last;
      dc = like (words_of bytes).dc dc_offset d.0;
      low = like (words_of bytes).low (low_offset (count_in bytes)) d.1;
      high = like (words_of bytes).high (high_offset (count_in bytes)) h.1;
      end = like (words_of bytes).total (total (count_in bytes)) m.1;
      whole = fits file_length (length bytes) (total (count_in bytes)) tt length-passes;
    }

-- ---- and back

pub fits-save : (mode : ℕ) (size : Size) (s : Planes) (bytes : List ℕ) → Shape mode size → Lengths (macroblocks size) s → length bytes ≡ total (macroblocks size) → save_number mode size s bytes ≡ 0
unfolding save_number
fits-save mode size s bytes f l w =
    let n = macroblocks size in
    pass_both (shape_checks mode size) (plane_checks n s ++ total_check n (length bytes)) (shape_passes f)
    (pass_both (plane_checks n s) (total_check n (length bytes)) (fits-planes n s l) (is-fit file_length (length bytes) (total n) w))

pub fits-header : (bytes : List ℕ) → HeaderFits bytes → header_number bytes ≡ 0
unfolding header_number
fits-header bytes f =
    let w = words_of bytes in
    let placed = neither _ _ (neither _ _ (neither _ _ (alike _ _ f.dc) (alike _ _ f.low)) (alike _ _ f.high)) (alike _ _ f.end) in
    let layout = pass_both (last_check w) (offsets_check w) (is-fit last_word w.last 0 f.last) (passing offsets _ placed) in
    let words = pass_both (shape_checks (mode_in bytes) (size_in bytes)) (layout_checks w) (shape_passes f.shape) layout in
    let start = pass_both (short_check bytes) (word_checks w) (passing file_too_short _ (le-ltb (length bytes) header_bytes f.enough)) words in
    pass_both (start_checks bytes) (total_check (count_in bytes) (length bytes)) start (is-fit file_length (length bytes) (total (count_in bytes)) f.whole)

-- ---- the answer, by its number

pub answer-done : (k : ℕ) (bytes : List ℕ) → k ≡ 0 → header_of 0 (mode_in bytes) (size_in bytes) ≡ answer k bytes
answer-done zero bytes e = refl
answer-done (suc k) bytes e = absurd (omega (arith, e))

-- a refusal, whatever checks follow
pub refusal_some : (refusal : Refusal) → number_of_refusal refusal ≡ 0 → ⊥
refusal_some refusal e = let z : ◌≡◌ {A = ℕ} 1 0 = sym (settled-done _ 1 0 e) ∙ refused-keeps refusal 1 0 in omega arith

pub still_refused : (xs ys : List ℕ) (refusal : Refusal) → number_of_refusal refusal ≡ first_of xs → number_of_refusal refusal ≡ first_of (xs ++ ys)
still_refused xs ys refusal e = refused-first xs ys e (refusal_some refusal)

-- checks that pass, and further ones after them
pub then_checks : (xs ys : List ℕ) {k : ℕ} → 0 ≡ first_of xs → k ≡ first_of ys → k ≡ first_of (xs ++ ys)
then_checks xs ys z e = e ∙ sym (passed_first xs ys z refl)

-- what a call leaves: what was there where it refuses, and else the result
pub kept : {A : Type 0} {k : ℕ} (refusal : Refusal) (x y : A) → number_of_refusal refusal ≡ k → y ≡ settled k x y
kept refusal x y e = rw (← e) (sym (refused-keeps refusal x y))

pub changed : {A : Type 0} {k : ℕ} (x y : A) → 0 ≡ k → x ≡ settled k x y
changed x y e = sym (settled-done _ x y (sym e))

-- ---- the check of the file's length

pub total_off : (n t bytes : ℕ) → t ≡ total n → (bytes ≡ t → ⊥) → file_length ≡ first_of (total_check n bytes)
total_off n t bytes e h = sym (simp (ne_eqb bytes (total n) (λ z. h (z ∙ sym e))))

pub total_on : (n t bytes : ℕ) → t ≡ total n → bytes ≡ t → first_of (total_check n bytes) ≡ 0
total_on n t bytes e h = simp (eq-eqb bytes (total n) (h ∙ e))
