-- The checks of a plane file and its header, held to their faults; and what a header answers.
use Prim.Native.Nat.{ℕ, zero, suc, ◌+◌, ◌*◌, ◌<◌}
use mathlib.Core.Path.{◌≡◌, sym, ap, ◌∙◌}
use mathlib.Core.Bool.{false}
use mathlib.Core.List.{List, ◌++◌}
use native.Mathlib.Omega.{arith}
use lib.Dec.{ltb}
use lib.ListN.{length}
use borrow.Author.Tests.{lt-ltb, le-ltb, eq-eqb}
use Rattle.picture.specs.Planes.{Planes}
use Rattle.picture.specs.Numbers.{◌if◌, settled}
use Rattle.picture.proofs.NumberLaws.{settled-done, settled-refused}
use Rattle.picture.proofs.CheckLaws.{either_false, like}
use Rattle.plane_file.specs.declared.header.Header.{Header}
use Rattle.plane_file.specs.Layout.{planes_in}
use Rattle.plane_file.specs.Words.{word_at}
use Rattle.plane_file.specs.Header.{words_of, size_in, answer}
use Rattle.plane_file.specs.Numbers.{misplaced, start_checks, total_check, header_number, load_number}
use Rattle.decode.specs.Program.{program_number}
use Rattle.clients.specs.Faults.{Placed, start_faults, total_fault, HeaderFaults, LoadFaults, ProgramFaults}
use Rattle.clients.specs.Header.{HeaderSaid}
use Rattle.clients.proofs.FaultLaws.{Told, no_fault, first_fault, unless_fault, shape_faults_lem, length_fault_lem, plane_faults_lem}

module _ (bytes : List ℕ) where
  abbrev n : ℕ
  n = word_at bytes 4 * word_at bytes 8

  in_place : misplaced n (words_of bytes) ≡ false → Placed bytes n
  in_place e =
      let p = either_false _ _ e in
      let q = either_false _ _ p.0 in
      let r = either_false _ _ q.0 in
      record { dc = like _ _ r.0; low = like _ _ r.1; high = like _ _ q.1; total = like _ _ p.1 }

  placed : Placed bytes n → misplaced n (words_of bytes) ≡ false
  placed p = simp (eq-eqb _ _ p.dc, eq-eqb _ _ p.low, eq-eqb _ _ p.high, eq-eqb _ _ p.total)

  start_told : {rest : ℕ → Type 0} {checks : List ℕ} → Told checks rest → Told (start_checks bytes ++ checks) (start_faults bytes rest)
  start_told r =
      first_fault tt (λ h. simp (lt-ltb (length bytes) 32 h)) (λ h. simp (le-ltb (length bytes) 32 (omega (arith, h))))
      (shape_faults_lem (word_at bytes 0) (size_in bytes) (length_fault_lem 10 (word_at bytes 28) 0 tt (unless_fault 11 (misplaced n (words_of bytes)) tt in_place placed r)))

  total-told : {rest : ℕ → Type 0} {checks : List ℕ} → Told checks rest → Told (total_check n (length bytes) ++ checks) (total_fault bytes rest)
  total-told r = length_fault_lem 12 (length bytes) (32 + 1024 * n) tt r

  pub header-faults : HeaderFaults bytes (header_number bytes)
  unfolding header_number
  header-faults = record { faults = (start_told (total-told no_fault)).told }

  pub load-faults : (s : Planes) → LoadFaults bytes s (load_number bytes s)
  unfolding load_number
  load-faults s = record { faults = (start_told (total-told (plane_faults_lem n s no_fault))).told }

  many : 16 < n → (13 if ltb 16 n) ≡ 13
  many h = simp (lt-ltb 16 n h)

  few : (16 < n → ⊥) → (13 if ltb 16 n) ≡ 0
  few h = simp (le-ltb 16 n (omega (arith, h)))

  pub program_faults : ProgramFaults bytes (program_number bytes)
  unfolding program_number
  program_faults = record { faults = (start_told (first_fault tt many few (total-told no_fault))).told }

  -- ---- the answer

  pub answer-number : (k : ℕ) {r : Header} → r ≡ answer k bytes → r.number ≡ k
  answer-number zero e = ap (λ (h : Header). h.number) e
  answer-number (suc k) e = ap (λ (h : Header). h.number) e

  pub said : (k : ℕ) {r : Header} → r ≡ answer k bytes → HeaderSaid bytes r
  said zero e =
      record {
        done = λ z. (ap (λ (h : Header). h.mode) e, ap (λ (h : Header). h.size.width.0) e, ap (λ (h : Header). h.size.height.0) e);
        refused = λ n. absurd (n (ap (λ (h : Header). h.number) e));
      }
  said (suc k) e =
      record {
        done = λ z. absurd (omega (arith, sym (ap (λ (h : Header). h.number) e) ∙ z));
        refused = λ n. (ap (λ (h : Header). h.mode) e, ap (λ (h : Header). h.size.width.0) e, ap (λ (h : Header). h.size.height.0) e);
      }

  module _ (k : ℕ) (was : Planes) {r : Header} {t : Planes} (e : r ≡ answer k bytes) (p : t ≡ settled k (planes_in bytes n) was) where
    pub loaded-planes : r.number ≡ 0 → t ≡ planes_in bytes (r.size.width.0 * r.size.height.0)
    loaded-planes z =
        let d = (said k e).done z in
        p ∙ settled-done k _ _ (sym (answer-number k e) ∙ z) ∙ ap (planes_in bytes) (ap (λ (w : ℕ). w * word_at bytes 8) (sym d.1) ∙ ap (λ (h : ℕ). r.size.width.0 * h) (sym d.2))

    pub left-planes : (r.number ≡ 0 → ⊥) → t ≡ was
    left-planes h = p ∙ settled-refused k _ _ (λ z. h (answer-number k e ∙ z))
