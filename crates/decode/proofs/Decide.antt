-- Which checks decide the program's number: those that pass, before or after the others, change nothing.
use Rattle.std.proofs.Common.{◌≡◌, ℕ, ◌*◌, ◌≤◌, List, ◌++◌, length, sym, ap, ◌∙◌, refl, ℤ}
use borrow.Author.Tests.{ltb-false}
use Rattle.picture.specs.declared.refusals.Refusal.{Refusal}
use Rattle.picture.specs.declared.size.Size.{Size}
use Rattle.picture.specs.Refusals.{number_of_refusal, samples_length, too_many_macroblocks}
use Rattle.picture.specs.Numbers.{first_of, settled, shape_checks, plane_checks, sample_check, inverse_number}
use Rattle.picture.specs.Planes.{Planes, Lengths}
use Rattle.transform.specs.Transform.{inverse}
use Rattle.picture.proofs.NumberLaws.{passed_first, both_pass, last_passed, settled-done}
use Rattle.picture.proofs.CheckLaws.{passes, shape_passes, fits-planes, is-fit}
use Rattle.plane_file.specs.declared.header.Start.{Start}
use Rattle.plane_file.specs.Header.{mode_in, size_in, words_of, start_of}
use Rattle.plane_file.specs.Words.{numbers_at}
use Rattle.plane_file.specs.Layout.{planes_in}
use Rattle.plane_file.specs.Calls.{loaded}
use Rattle.plane_file.specs.Numbers.{start_checks, total_check, count_in, header_checks, header_number, load_number}
use Rattle.picture.proofs.Table.{length-table}
use Rattle.plane_file.proofs.Checks.{header-fits, still_refused, refusal_some}
use Rattle.decode.specs.Program.{count_check, program_number, planes_of, samples_of}

-- ---- the count of macroblocks

-- a file that the words or the count refuse
pub small_refuses : (bytes : List ℕ) (refusal : Refusal) → number_of_refusal refusal ≡ first_of (start_checks bytes ++ count_check (count_in bytes)) → number_of_refusal refusal ≡ program_number bytes
unfolding program_number
small_refuses bytes = still_refused (start_checks bytes ++ count_check (count_in bytes)) (total_check (count_in bytes) (length bytes))

module _ (bytes : List ℕ) (e : 0 ≡ first_of (start_checks bytes ++ count_check (count_in bytes))) where
  pub few : count_in bytes ≤ 16
  few = ltb-false 16 (count_in bytes) (passes too_many_macroblocks _ tt (both_pass (start_checks bytes) (count_check (count_in bytes)) (sym e)).1)

  -- one that they let through has the header's number
  pub program_number_lem : header_number bytes ≡ program_number bytes
  unfolding program_number header_number
  program_number_lem =
      let total = total_check (count_in bytes) (length bytes) in
      passed_first (start_checks bytes) total refl (both_pass (start_checks bytes) (count_check (count_in bytes)) (sym e)).0
      ∙ sym (passed_first (start_checks bytes ++ count_check (count_in bytes)) total refl (sym e))

-- ---- loading into planes of the file's lengths

pub load-number : (bytes : List ℕ) (s : Planes) → Lengths (count_in bytes) s → load_number bytes s ≡ header_number bytes
unfolding load_number header_number
load-number bytes s l = last_passed (header_checks bytes) (plane_checks (count_in bytes) s) (fits-planes (count_in bytes) s l)

pub loaded-settled : (bytes : List ℕ) {s was : Planes} → Lengths (count_in bytes) was → s ≡ loaded bytes was → s ≡ settled (header_number bytes) (planes_of bytes) was
loaded-settled bytes {s} {was} l e = e ∙ ap (λ (k : ℕ). settled k (planes_of bytes) was) (load-number bytes was l)

-- ---- the inverse of what was loaded

shape_passed : (bytes : List ℕ) → header_number bytes ≡ 0 → first_of (shape_checks (mode_in bytes) (size_in bytes)) ≡ 0
shape_passed bytes e = shape_passes (header-fits bytes e).shape

inverse-number : (bytes : List ℕ) (s : Planes) (samples : List ℤ) → header_number bytes ≡ 0 → Lengths (count_in bytes) s → length samples ≡ 256 * count_in bytes
    → inverse_number (mode_in bytes) (size_in bytes) s samples ≡ 0
unfolding inverse_number
inverse-number bytes s samples e l h =
    let lengths = plane_checks (count_in bytes) s in
    let last = sample_check (count_in bytes) samples in
    passed_first (shape_checks (mode_in bytes) (size_in bytes)) (lengths ++ last) refl (shape_passed bytes e)
    ∙ passed_first lengths last refl (fits-planes (count_in bytes) s l)
    ∙ is-fit samples_length (length samples) (256 * count_in bytes) h

plane_lengths : (bytes : List ℕ) (n : ℕ) → Lengths n (planes_in bytes n)
unfolding numbers_at
plane_lengths bytes n = record { dc = length-table _ _; low = length-table _ _; high = length-table _ _ }

-- a file that was loaded, whose mode and size are given to the inverse
module _ (bytes : List ℕ) {start : Start} (said : start ≡ start_of (words_of bytes)) {now : Size} (same : now ≡ start.size)
    (was : Planes) (l : Lengths (count_in bytes) was) (passed : 0 ≡ load_number bytes was) {s : Planes} (read : s ≡ loaded bytes was)
    (v : List ℤ) (h : length v ≡ 256 * count_in bytes) where
  done : 0 ≡ header_number bytes
  done = passed ∙ load-number bytes was l

  planes-are : s ≡ planes_of bytes
  planes-are = read ∙ settled-done (load_number bytes was) (planes_of bytes) was (sym passed)

  pub inverse_passes : inverse_number start.mode now s v ≡ 0
  inverse_passes = rw (same, said, planes-are) (inverse-number bytes (planes_of bytes) v (sym done) (plane_lengths bytes (count_in bytes)) h)

  pub samples_are : {k : ℕ} {u : List ℤ} → k ≡ inverse_number start.mode now s v → u ≡ settled k (inverse start.mode now s) v → u ≡ settled (header_number bytes) (samples_of bytes) v
  samples_are q w =
      w ∙ settled-done _ (inverse start.mode now s) v (q ∙ inverse_passes)
      ∙ rw (same, said, planes-are) (sym (settled-done (header_number bytes) (samples_of bytes) v (sym done)))

  pub refused_not : (refusal : Refusal) → number_of_refusal refusal ≡ inverse_number start.mode now s v → ⊥
  refused_not refusal e = refusal_some refusal (e ∙ inverse_passes)
