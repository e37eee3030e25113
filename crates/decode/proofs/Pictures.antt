-- What is shown, by the number: a refusal's line, or the rows of samples that are 32-bit numbers, 256 for each of at most 16 macroblocks.
use Rattle.std.proofs.Common.{◌≡◌, ℕ, ◌*◌, ◌<◌, ◌≤◌, List, ◌++◌, length, take, drop, sym, ap, ◌∙◌, ℤ, arith, length-append}
use lib.Seq.{take_at}
use Rattle.lifting.specs.Row.{Row}
use Rattle.lifting.proofs.WrapLaws.{wrap-fits}
use Rattle.decimal.specs.Text.{refused_line}
use Rattle.decimal.proofs.Digits.{digits-at-most}
use Rattle.picture.specs.declared.refusals.Refusal.{Refusal}
use Rattle.picture.specs.Refusals.{number_of_refusal}
use Rattle.picture.specs.Sizes.{Sized, macroblocks}
use Rattle.picture.specs.Modes.{mode_of}
use Rattle.picture.specs.Planes.{PlanesOf}
use Rattle.picture.proofs.AnswerLaws.{refused-keeps}
use Rattle.picture.proofs.NumberLaws.{both_pass, settled-done}
use Rattle.picture.proofs.Table.{row-table}
use Rattle.transform.proofs.OnePlanes.{row-inverse}
use Rattle.plane_file.specs.declared.header.Start.{Start}
use Rattle.plane_file.specs.Words.{numbers_at}
use Rattle.plane_file.specs.Header.{mode_in, size_in, words_of, start_of}
use Rattle.plane_file.specs.Numbers.{start_checks, total_check, count_in}
use Rattle.decode.specs.Program.{count_check, program_number, planes_of, samples_of, left}
use Rattle.decode.specs.Shown.{rows, shown}
use Rattle.decode.proofs.Decide.{few}

pub refused-length : (k : ℕ) → k < 4294967296 → length (refused_line k) ≤ 19
unfolding refused_line
refused-length k h = simp length-append (omega (arith, digits-at-most k (omega arith)))

plane_row : (bytes : List ℕ) (at n : ℕ) → Row n (numbers_at bytes at n)
unfolding numbers_at
plane_row bytes at n = row-table n _ (λ i h. wrap-fits _)

planes-row : (bytes : List ℕ) → PlanesOf (size_in bytes) (planes_of bytes)
planes-row bytes = record { dc = plane_row bytes _ _; low = plane_row bytes _ _; high = plane_row bytes _ _ }

-- ---- a refusal

pub refused-shown : (bytes : List ℕ) (refusal : Refusal) → number_of_refusal refusal ≡ program_number bytes → refused_line (number_of_refusal refusal) ≡ shown bytes
unfolding shown
refused-shown bytes refusal e = rw (← e) (sym (refused-keeps refusal _ (refused_line (number_of_refusal refusal))))

-- ---- a picture

module _ (bytes : List ℕ) {start : Start} (said : start ≡ start_of (words_of bytes)) (done : 0 ≡ program_number bytes) where
  small : macroblocks start.size ≤ 16
  unfolding program_number
  small = rw said (few bytes (sym (both_pass (start_checks bytes ++ count_check (count_in bytes)) (total_check (count_in bytes) (length bytes)) (sym done)).0))

  -- sides of w and h samples
  module _ (sized : Sized start.size) {w h : ℕ} (across : w ≡ 16 * start.size.width.0) (down : h ≡ 16 * start.size.height.0) where
    area : h * w ≡ 256 * macroblocks start.size
    area = rw (across, down) (omega arith)

    pub all-few : h * w ≤ 4096
    all-few = omega (arith, area, small)

    counted : 256 * count_in bytes ≡ h * w
    counted = sym (area ∙ ap (λ (s : Start). 256 * macroblocks s.size) said)

    pub samples-row : Row (h * w) (samples_of bytes)
    samples-row =
        let s = rw said at sized in
        rw (← counted) (row-inverse (mode_of (mode_in bytes)) (size_in bytes) s (planes-row bytes))

    pub front-is : (was : List ℤ) {v : List ℤ} → v ≡ left bytes (256 * count_in bytes) (samples_of bytes) was → take (h * w) v ≡ samples_of bytes
    front-is was q =
        ap (take (h * w)) (q ∙ settled-done (program_number bytes) _ was (sym done))
        ∙ take_at (samples_of bytes) (drop (256 * count_in bytes) was) (h * w) samples-row.len

    pub rows-shown : rows h w (samples_of bytes) ≡ shown bytes
    unfolding shown
    rows-shown =
        rw (across, down)
        (ap (λ (s : Start). rows (16 * s.size.height.0) (16 * s.size.width.0) (samples_of bytes)) said
        ∙ sym (settled-done (program_number bytes) (rows (16 * (size_in bytes).height.0) (16 * (size_in bytes).width.0) (samples_of bytes)) (refused_line (program_number bytes)) (sym done)))
