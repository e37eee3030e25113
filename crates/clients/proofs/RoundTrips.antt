-- Two calls one after the other, from what each leaves: the planes come back.
use Prim.Native.Nat.{ℕ, ◌+◌, ◌*◌}
use mathlib.Core.Path.{◌≡◌, refl, sym, ap, ◌∙◌}
use mathlib.Core.Bool.{Bool, false}
use mathlib.Core.List.{List}
use lib.IntN.{ℤ}
use lib.ListN.{length}
use Rattle.lifting.specs.Row.{Row}
use Rattle.large_numbers.proofs.Small.{row_as}
use Rattle.picture.specs.declared.size.Size.{Size}
use Rattle.picture.specs.Modes.{mode_of}
use Rattle.picture.specs.Planes.{Planes, PlanesOf, Lengths}
use Rattle.picture.specs.Numbers.{settled, inverse_number, forward_number}
use Rattle.transform.specs.Transform.{inverse, forward}
use Rattle.transform.specs.Wraps.{inverse_wraps, forward_wraps}
use Rattle.picture.specs.Sizes.{Shape}
use Rattle.transform.proofs.OnePlanes.{forward-inverse, row-inverse}
use Rattle.transform.proofs.BothWays.{wraps_both_ways}
use Rattle.picture.proofs.NumberLaws.{settled-done}
use Rattle.plane_file.specs.declared.header.Header.{Header}
use Rattle.plane_file.specs.Layout.{file}
use Rattle.plane_file.specs.Numbers.{save_number}
use Rattle.plane_file.specs.Calls.{load_answer, loaded, saved}
use Rattle.plane_file.proofs.Checks.{fits-save}
use Rattle.plane_file.proofs.RoundTrips.{load-undoes-save}
use Rattle.clients.specs.Right.{Right, Room, count}
use Rattle.clients.proofs.FaultLaws.{shape_right, planes-right}
use Rattle.clients.proofs.Numbers.{inverse-faults, forward-faults}

shape : {mode : ℕ} {size : Size} → Right mode size → Shape mode size
shape r = record { known = r.known; sized = record { wide = r.wide; most-wide = r.most-wide; tall = r.tall; most-tall = r.most-tall } }

lengths : {n : ℕ} {s : Planes} → Room n s → Lengths n s
lengths r = record { dc = r.dc; low = r.low; high = r.high }

-- the numbers of each plane are of 32 bits
pub record Rows (s : Planes) : Type 0 where
  pub dc : Row (length s.dc) s.dc
  pub low : Row (length s.low) s.low
  pub high : Row (length s.high) s.high

planes-of : {size : Size} {s : Planes} → Room (count size) s → Rows s → PlanesOf size s
planes-of r f = record { dc = row_as f.dc r.dc; low = row_as f.low r.low; high = row_as f.high r.high }

module _ (mode : ℕ) (size : Size) (s : Planes) (right : Right mode size) (room : Room (count size) s) where
  module _ (bytes : List ℕ) (whole : length bytes ≡ 32 + 1024 * count size) where
    pub saves : {number : ℕ} → number ≡ save_number mode size s bytes → number ≡ 0
    saves e = e ∙ fits-save mode size s bytes (shape right) (lengths room) whole

    pub comes_back : (was : Planes) → Room (count size) was → Rows s → {left : List ℕ} {r : Header} {t : Planes}
        → left ≡ saved mode size s bytes → r ≡ load_answer left was → t ≡ loaded left was
        → (r.number ≡ 0) × (r.mode ≡ mode) × (r.size ≡ size) × (t ≡ s)
    comes_back was again f {left} {r} {t} e a p =
        let written : left ≡ file mode size s = e ∙ settled-done (save_number mode size s bytes) _ _ (saves refl) in
        let back = load-undoes-save mode size (shape right) s was (planes-of room f) (lengths again) in
        let h = a ∙ ap (λ (l : List ℕ). load_answer l was) written ∙ back.answer in
        (ap (λ (x : Header). x.number) h, ap (λ (x : Header). x.mode) h, ap (λ (x : Header). x.size) h, p ∙ ap (λ (l : List ℕ). loaded l was) written ∙ back.planes)

  module _ (samples : List ℤ) (whole : length samples ≡ 256 * count size) where
    pub transforms : {number : ℕ} → number ≡ inverse_number mode size s samples → number ≡ 0
    transforms e = e ∙ (planes-right _ room (shape_right _ right (inverse-faults mode size s samples).faults)).later (λ n. n whole)

    module _ (was : Planes) (again : Room (count size) was) (f : Rows s) {first k : ℕ} {left : List ℤ} {t : Planes} {wrapped : Bool}
        (done : first ≡ 0) (e : left ≡ settled first (inverse mode size s) samples) (a : k ≡ forward_number mode size left was)
        (p : t ≡ settled k (forward mode size left) was) (w : wrapped ≡ settled k (forward_wraps mode size left) false) where
      given : PlanesOf size s
      given = planes-of room f

      made : left ≡ inverse mode size s
      made = e ∙ settled-done first _ _ done

      long : length left ≡ 256 * count size
      long = ap length made ∙ (row-inverse (mode_of mode) size (shape right).sized given).len

      returned : k ≡ 0
      returned = a ∙ planes-right _ again ((shape_right _ right (forward-faults mode size left was).faults).later (λ n. n long))

      pub returns-planes : (k ≡ 0) × (t ≡ s) × (wrapped ≡ inverse_wraps mode size s)
      returns-planes = (
        returned,
        p ∙ settled-done k _ _ returned ∙ ap (forward mode size) made ∙ forward-inverse (mode_of mode) size (shape right).sized s given,
        w ∙ settled-done k _ _ returned ∙ ap (forward_wraps mode size) made ∙ sym (wraps_both_ways mode size (shape right) s given),
      )
