-- The number of each call, by the checks in their order: header, load and save each refuse at the first that fails.
use Rattle.std.proofs.Common.{◌≡◌, ℕ, ◌+◌, ◌*◌, ◌≤◌, List, ◌++◌, length, arith, sym, ap, ◌∙◌}
use Rattle.picture.specs.declared.refusals.Refusal.{Refusal}
use Rattle.picture.specs.declared.size.Size.{Size}
use Rattle.picture.specs.Sizes.{macroblocks}
use Rattle.picture.specs.Planes.{Planes, Lengths}
use Rattle.picture.specs.Refusals.{number_of_refusal, file_length}
use Rattle.picture.specs.Numbers.{first_of, shape_checks, plane_checks}
use Rattle.picture.proofs.CheckLaws.{planes-fit}
use Rattle.plane_file.specs.declared.header.Start.{Start}
use Rattle.plane_file.specs.declared.layout.Layout.{Layout}
use Rattle.plane_file.specs.Layout.{total}
use Rattle.plane_file.specs.Header.{words_of, start_of, layout_of}
use Rattle.plane_file.specs.Numbers.{start_checks, total_check, header_checks, count_in, header_number, load_number, save_number}
use Rattle.plane_file.proofs.Checks.{header-fits, still_refused, then_checks, total_off, total_on}

-- ---- header

module _ (bytes : List ℕ) where
  pub start_refuses : (refusal : Refusal) → number_of_refusal refusal ≡ first_of (start_checks bytes) → number_of_refusal refusal ≡ header_number bytes
  unfolding header_number
  start_refuses = still_refused (start_checks bytes) (total_check (count_in bytes) (length bytes))

  module _ {start : Start} (said : start ≡ start_of (words_of bytes)) {n : ℕ} (count : n ≡ macroblocks start.size) where
    -- the macroblocks of the size that the header says
    pub counted : n ≡ count_in bytes
    counted = count ∙ ap (λ (s : Start). macroblocks s.size) said

    module _ {laid : Layout} (is : laid ≡ layout_of n) where
      pub placed : laid ≡ layout_of (count_in bytes)
      placed = is ∙ ap layout_of counted

      end : laid.total ≡ total (count_in bytes)
      end = ap (λ (l : Layout). l.total) placed

      module _ (passed : 0 ≡ first_of (start_checks bytes)) where
        pub header_too_long : (length bytes ≡ laid.total → ⊥) → file_length ≡ header_number bytes
        unfolding header_number
        header_too_long h = then_checks (start_checks bytes) _ passed (total_off (count_in bytes) laid.total (length bytes) end h)

        pub header_done : length bytes ≡ laid.total → 0 ≡ header_number bytes
        unfolding header_number
        header_done h = then_checks (start_checks bytes) _ passed (sym (total_on (count_in bytes) laid.total (length bytes) end h))

-- ---- load: the header's checks, and then those of the planes

-- where the planes begin they are followed by as many bytes as their numbers take
pub record PlanesInside (bytes : List ℕ) (s : Planes) (laid : Layout) : Type 0 where
  pub dc : laid.dc + 4 * length s.dc ≤ length bytes
  pub low : laid.low + 4 * length s.low ≤ length bytes
  pub high : laid.high + 4 * length s.high ≤ length bytes

module _ (bytes : List ℕ) (s : Planes) where
  pub header_refuses : (refusal : Refusal) → number_of_refusal refusal ≡ header_number bytes → number_of_refusal refusal ≡ load_number bytes s
  unfolding load_number header_number
  header_refuses = still_refused (header_checks bytes) (plane_checks (count_in bytes) s)

  module _ (passed : 0 ≡ header_number bytes) {n : ℕ} (count : n ≡ count_in bytes) where
    pub load_by_planes : {k : ℕ} → k ≡ first_of (plane_checks n s) → k ≡ load_number bytes s
    unfolding load_number header_number
    load_by_planes q = then_checks (header_checks bytes) (plane_checks (count_in bytes) s) passed (q ∙ ap (λ (m : ℕ). first_of (plane_checks m s)) count)

    pub load_lengths : 0 ≡ first_of (plane_checks n s) → Lengths (count_in bytes) s
    load_lengths q = planes-fit (count_in bytes) s (sym (q ∙ ap (λ (m : ℕ). first_of (plane_checks m s)) count))

    pub planes_inside : 0 ≡ first_of (plane_checks n s) → {laid : Layout} → laid ≡ layout_of (count_in bytes) → PlanesInside bytes s laid
    planes_inside q is =
        let long = load_lengths q in
        let f = header-fits bytes (sym passed) in
        rw is (record { dc = omega (arith, long.dc, f.whole); low = omega (arith, long.low, f.whole); high = omega (arith, long.high, f.whole) })

-- ---- save: the checks of mode and size, of the planes and of the length

module _ (mode : ℕ) (size : Size) (s : Planes) (bytes : List ℕ) where
  pub shape_refuses : (refusal : Refusal) → number_of_refusal refusal ≡ first_of (shape_checks mode size) → number_of_refusal refusal ≡ save_number mode size s bytes
  unfolding save_number
  shape_refuses = still_refused (shape_checks mode size) (plane_checks (macroblocks size) s ++ total_check (macroblocks size) (length bytes))

  module _ (shape : 0 ≡ first_of (shape_checks mode size)) {now : Size} (same : now ≡ size) {n : ℕ} (count : n ≡ macroblocks now) where
    by_planes : {k : ℕ} → k ≡ first_of (plane_checks n s) → k ≡ first_of (plane_checks (macroblocks size) s)
    by_planes q = q ∙ ap (λ (m : ℕ). first_of (plane_checks m s)) (count ∙ ap macroblocks same)

    pub planes_refuse : (refusal : Refusal) → number_of_refusal refusal ≡ first_of (plane_checks n s) → number_of_refusal refusal ≡ save_number mode size s bytes
    unfolding save_number
    planes_refuse refusal q = then_checks (shape_checks mode size) _ shape (still_refused (plane_checks (macroblocks size) s) (total_check (macroblocks size) (length bytes)) refusal (by_planes q))

    module _ (passed : 0 ≡ first_of (plane_checks n s)) {laid : Layout} (is : laid ≡ layout_of n) where
      save_end : laid.total ≡ total (macroblocks size)
      save_end = ap (λ (l : Layout). l.total) is ∙ ap total (count ∙ ap macroblocks same)

      pub length_refuses : (length bytes ≡ laid.total → ⊥) → file_length ≡ save_number mode size s bytes
      unfolding save_number
      length_refuses h =
          then_checks (shape_checks mode size) _ shape
          (then_checks (plane_checks (macroblocks size) s) _ (by_planes passed) (total_off (macroblocks size) laid.total (length bytes) save_end h))

      pub saves : length bytes ≡ laid.total → 0 ≡ save_number mode size s bytes
      unfolding save_number
      saves h =
          then_checks (shape_checks mode size) _ shape
          (then_checks (plane_checks (macroblocks size) s) _ (by_planes passed) (sym (total_on (macroblocks size) laid.total (length bytes) save_end h)))

      pub save_lengths : Lengths (macroblocks now) s
      save_lengths = planes-fit (macroblocks now) s (sym (passed ∙ ap (λ (m : ℕ). first_of (plane_checks m s)) count))

      pub save_total : length bytes ≡ laid.total → length bytes ≡ total (macroblocks now)
      save_total h = h ∙ ap (λ (l : Layout). l.total) is ∙ ap total count
