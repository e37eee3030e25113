-- A file written part by part is the whole file: its parts follow each other to the last byte.
use Prim.Native.Nat.{ℕ, ◌+◌, ◌*◌}
use mathlib.Core.Path.{◌≡◌, refl, ◌∙◌}
use mathlib.Core.List.{List, [], ◌∷◌, ◌++◌, append-nil, map}
use native.Mathlib.Omega.{arith}
use lib.IntN.{ℤ}
use lib.ListN.{length, take, drop, length-append}
use Rattle.lifting.specs.Wrap.{low32}
use Rattle.picture.specs.declared.size.Size.{Size}
use Rattle.picture.specs.Sizes.{macroblocks}
use Rattle.picture.specs.Planes.{Planes, Lengths, planes}
use Rattle.plane_file.specs.declared.layout.Layout.{Layout}
use Rattle.plane_file.specs.Header.{layout_of}
use Rattle.plane_file.specs.Words.{words, numbers, numbers_at}
use Rattle.plane_file.specs.Layout.{header_bytes, dc_offset, low_offset, high_offset, total, header, file, planes_in}
use Rattle.plane_file.proofs.Parts.{then_at, numbers-length}

pub header-length : (mode : ℕ) (size : Size) → length (header mode size) ≡ header_bytes
unfolding header words
header-length mode size = refl

-- what a plane is written behind
behind : (done : List ℕ) (plane : List ℤ) (at next : ℕ) → length done ≡ at → at + 4 * length plane ≡ next → length (done ++ numbers plane) ≡ next
behind done plane at next e n = omega (arith, length-append done (numbers plane), numbers-length plane)

pub file-written : (mode : ℕ) (size said : Size) (s : Planes) (b : List ℕ) {starts : Layout} {b1 b2 b3 b4 : List ℕ}
    → Lengths (macroblocks size) s → length b ≡ total (macroblocks size) → starts ≡ layout_of (macroblocks size) → said ≡ size
    → b1 ≡ take 0 b ++ words (mode ∷ said.width.0 ∷ said.height.0 ∷ starts.dc ∷ starts.low ∷ starts.high ∷ starts.total ∷ 0 ∷ []) ++ drop header_bytes b
    → b2 ≡ take starts.dc b1 ++ words (map low32 s.dc) ++ drop (starts.dc + 4 * length s.dc) b1
    → b3 ≡ take starts.low b2 ++ words (map low32 s.low) ++ drop (starts.low + 4 * length s.low) b2
    → b4 ≡ take starts.high b3 ++ words (map low32 s.high) ++ drop (starts.high + 4 * length s.high) b3
    → b4 ≡ file mode size s
unfolding file header numbers
file-written mode size said s b f w e same p0 p1 p2 p3 =
    let n = macroblocks size in
    let n1 : dc_offset + 4 * length s.dc ≡ low_offset n = omega (arith, f.dc) in
    let n2 : low_offset n + 4 * length s.low ≡ high_offset n = omega (arith, f.low) in
    let n3 : high_offset n + 4 * length s.high ≡ length b = omega (arith, f.high, w) in
    let l1 = header-length mode size in
    let l2 = behind (header mode size) s.dc dc_offset (low_offset n) l1 n1 in
    let l3 = behind (header mode size ++ numbers s.dc) s.low (low_offset n) (high_offset n) l2 n2 in
    let q2 = then_at (header mode size) (numbers s.dc) b dc_offset _ (low_offset n) l1 n1 (rw (e, same) at p0) (rw e at p1) in
    let q3 = then_at (header mode size ++ numbers s.dc) (numbers s.low) b (low_offset n) _ (high_offset n) l2 n2 q2 (rw e at p2) in
    let q4 = then_at (header mode size ++ numbers s.dc ++ numbers s.low) (numbers s.high) b (high_offset n) _ (length b) l3 n3 q3 (rw e at p3) in
    q4 ∙ rw (nothing b) (append-nil _)
  where
    nothing : (l : List ℕ) → drop (length l) l ≡ []
    nothing [] = refl
    nothing (x ∷ l) = nothing l

-- the planes that were loaded one by one
pub planes_read : (bytes : List ℕ) (n : ℕ) (s : Planes) {starts : Layout} {dc low high : List ℤ} → Lengths n s → starts ≡ layout_of n
    → dc ≡ numbers_at bytes starts.dc (length s.dc) → low ≡ numbers_at bytes starts.low (length s.low) → high ≡ numbers_at bytes starts.high (length s.high)
    → planes dc low high ≡ planes_in bytes n
planes_read bytes n s f e p q r = rw (p, q, r, f.dc, f.low, f.high, e)
