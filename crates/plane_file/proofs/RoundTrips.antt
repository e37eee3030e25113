-- Load and save undo each other: a word that was written is read back where it stands, and the bytes from which a word was read are those that it writes; parts follow each other.
use Prim.Native.Nat.{ℕ, zero, suc, ◌+◌, ◌*◌, ◌/◌, ◌%◌, ◌≤◌, ◌<◌}
use mathlib.Core.Path.{◌≡◌, refl, sym, ap, ◌∙◌}
use mathlib.Core.List.{List, [], ◌∷◌, ◌++◌, append_assoc, append-nil, map}
use native.Mathlib.Omega.{arith}
use native.Mathlib.Numerals.{add-one}
use native.Mathlib.Nat.{div-div-eq-div-mul}
use lib.Dec.{lit<}
use lib.ListN.{length, take, drop, get_or, length-append, length-map, get_or-map}
use lib.Seq.{get_or-append-add, drop-cons, take-add, take_all, drop-drop}
use lib.IntN.{ℤ, pos}
use mir.Val.{SFits}
use mir.Syntax.{w32}
use Rattle.lifting.specs.Wrap.{low32, wrap}
use Rattle.lifting.specs.Program.{at}
use Rattle.picture.specs.declared.size.Size.{Size}
use Rattle.picture.specs.Sizes.{macroblocks, Shape}
use Rattle.picture.specs.Numbers.{plane_checks}
use Rattle.picture.specs.Planes.{Planes, PlanesOf, Lengths}
use Rattle.picture.specs.Table.{table}
use Rattle.picture.proofs.Table.{length-table, table_is, table_same}
use Rattle.picture.proofs.NumberLaws.{passed_first, both_pass, settled-done}
use Rattle.plane_file.specs.Words.{word, words, numbers, word_at, words_at, number_at, numbers_at}
use Rattle.plane_file.specs.Layout.{header_length, header_bytes, dc_offset, low_offset, high_offset, total, header_words, header, file, planes_in}
use Rattle.plane_file.specs.Numbers.{count_in, header_checks, header_number, load_number}
use Rattle.plane_file.specs.Header.{mode_in, size_in}
use Rattle.plane_file.specs.Claims.{LoadUndoesSave, Bytes, Saves, SaveUndoesLoad}
use Rattle.plane_file.proofs.Signs.{low_small, word_number, number_word}
use Rattle.picture.proofs.CheckLaws.{few_macroblocks, fits-planes}
use Rattle.plane_file.proofs.Checks.{HeaderFits, header-fits, fits-header, fits-save, answer-done}
use Rattle.plane_file.proofs.Parts.{numbers-length}
use Rattle.plane_file.proofs.Written.{header-length}

-- ---- a word that was written is read back

digits : (x : ℕ) → x < 4294967296 → x % 256 + 256 * (x / 256 % 256) + 65536 * (x / 65536 % 256) + 16777216 * (x / 16777216 % 256) ≡ x
digits x h = rw (← div-div-eq-div-mul x 256 256, ← div-div-eq-div-mul x 65536 256, ← div-div-eq-div-mul x 256 256) (omega arith)

zero_more : (n : ℕ) → n + 0 ≡ n
zero_more n = omega arith

word_behind : (p rest : List ℕ) (x : ℕ) → x < 4294967296 → word_at (p ++ (word x ++ rest)) (length p) ≡ x
unfolding word_at
word_behind p rest x h = rw (start, get_or-append-add p (word x ++ rest) 1 0, get_or-append-add p (word x ++ rest) 2 0, get_or-append-add p (word x ++ rest) 3 0) (digits x h)
  where
    start : get_or (p ++ (word x ++ rest)) (length p) 0 ≡ x % 256
    start = ap (λ (k : ℕ). get_or (p ++ (word x ++ rest)) k 0) (sym (zero_more (length p))) ∙ get_or-append-add p (word x ++ rest) 0 0

-- each below 2^32
abbrev Small : List ℕ → Type 0
Small [] = Unit {0}
Small (x ∷ xs) = (x < 4294967296) × Small xs

-- of words that were written behind p, the one with the number k
words_behind : (xs p rest : List ℕ) (k : ℕ) → k < length xs → Small xs → word_at (p ++ (words xs ++ rest)) (length p + 4 * k) ≡ get_or xs k 0
unfolding words
words_behind [] p rest k h small = absurd (omega arith)
words_behind (x ∷ xs) p rest zero h small =
    ap (λ (j : ℕ). word_at (p ++ (word x ++ (words xs ++ rest))) j) (zero_more (length p)) ∙ word_behind p (words xs ++ rest) x small.0
words_behind (x ∷ xs) p rest (suc k) h small =
    let e : length p + 4 * suc k ≡ length (p ++ word x) + 4 * k = omega (arith, length-append p (word x)) in
    rw (← append_assoc p (word x) (words xs ++ rest))
    (ap (λ (j : ℕ). word_at ((p ++ word x) ++ (words xs ++ rest)) j) e ∙ words_behind xs (p ++ word x) rest k (omega arith) small.1)

small-numbers : (xs : List ℤ) → Small (map low32 xs)
small-numbers [] = tt
small-numbers (x ∷ xs) = (low_small x, small-numbers xs)

-- numbers that were written behind p are read back from there
numbers_behind : (xs : List ℤ) (p rest : List ℕ) (a : ℕ) → ((i : ℕ) → SFits w32 (at xs i)) → length p ≡ a
    → numbers_at (p ++ (numbers xs ++ rest)) a (length xs) ≡ xs
unfolding numbers_at numbers
numbers_behind xs p rest a f e =
    table_is (length xs) (λ i. number_at (p ++ (numbers xs ++ rest)) (a + 4 * i)) xs refl
    (λ i l.
    rw (← e)
    (ap (λ (w : ℕ). wrap (pos w))
    (words_behind (map low32 xs) p rest i (omega (arith, length-map xs low32)) (small-numbers xs) ∙ get_or-map low32 xs i (pos 0))
    ∙ word_number (at xs i) (f i)))

-- ---- a file that was saved

module _ (mode : ℕ) (size : Size) (shape : Shape mode size) (s : Planes) (fit : PlanesOf size s) where
  abbrev n : ℕ
  n = macroblocks size

  small : total n < 4294967296
  small = omega (arith, few_macroblocks shape.sized)

  file-length : length (file mode size s) ≡ total n
  unfolding file
  file-length =
      omega (
        arith,
        length-append (header mode size ++ numbers s.dc ++ numbers s.low) (numbers s.high),
        length-append (header mode size ++ numbers s.dc) (numbers s.low),
        length-append (header mode size) (numbers s.dc),
        header-length mode size,
        numbers-length s.dc,
        numbers-length s.low,
        numbers-length s.high,
        fit.dc.len,
        fit.low.len,
        fit.high.len,
      )

  header-word : (k : ℕ) → k < header_length → word_at (file mode size s) (4 * k) ≡ get_or (header_words mode size) k 0
  unfolding file header
  header-word k h =
      let e : 4 * k ≡ 0 + 4 * k = omega arith in
      rw (append_assoc (header mode size ++ numbers s.dc) (numbers s.low) (numbers s.high), append_assoc (header mode size) (numbers s.dc) (numbers s.low ++ numbers s.high), e)
      (words_behind (header_words mode size) [] _ k h (
        omega (arith, shape.known),
        (
          omega (arith, shape.sized.most-wide),
          (
            omega (arith, shape.sized.most-tall),
            (omega arith, (omega (arith, small), (omega (arith, small), (small, (omega arith, tt))))),
          ),
        ),
      ))

  at_mode : word_at (file mode size s) 0 ≡ mode
  at_mode = header-word 0 (lit< tt)

  at_width : word_at (file mode size s) 4 ≡ size.width.0
  at_width = header-word 1 (lit< tt)

  at_height : word_at (file mode size s) 8 ≡ size.height.0
  at_height = header-word 2 (lit< tt)

  at_count : count_in (file mode size s) ≡ n
  at_count = rw (at_width, at_height)

  saved-header : HeaderFits (file mode size s)
  saved-header =
      record {
        enough = omega (arith, file-length);
        shape = rw (at_mode, at_width, at_height) shape;
        last = header-word 7 (lit< tt);
        dc = header-word 3 (lit< tt);
        low = header-word 4 (lit< tt) ∙ ap low_offset (sym at_count);
        high = header-word 5 (lit< tt) ∙ ap high_offset (sym at_count);
        end = header-word 6 (lit< tt) ∙ ap total (sym at_count);
        whole = file-length ∙ ap total (sym at_count);
      }

  saved-dc : numbers_at (file mode size s) dc_offset n ≡ s.dc
  unfolding file
  saved-dc =
      rw (← fit.dc.len, append_assoc (header mode size ++ numbers s.dc) (numbers s.low) (numbers s.high), append_assoc (header mode size) (numbers s.dc) _)
      (numbers_behind s.dc (header mode size) _ dc_offset fit.dc.fit (header-length mode size))

  long_dc : length (header mode size ++ numbers s.dc) ≡ low_offset n
  long_dc = omega (arith, length-append (header mode size) (numbers s.dc), header-length mode size, numbers-length s.dc, fit.dc.len)

  saved_low : numbers_at (file mode size s) (low_offset n) (15 * n) ≡ s.low
  unfolding file
  saved_low =
      rw (← fit.low.len, append_assoc (header mode size ++ numbers s.dc) (numbers s.low) (numbers s.high))
      (numbers_behind s.low (header mode size ++ numbers s.dc) _ (low_offset n) fit.low.fit long_dc)

  saved-high : numbers_at (file mode size s) (high_offset n) (240 * n) ≡ s.high
  unfolding file
  saved-high =
      rw (← fit.high.len, ← append-nil (numbers s.high))
      (numbers_behind s.high (header mode size ++ numbers s.dc ++ numbers s.low) [] (high_offset n) fit.high.fit
      (omega (arith, length-append (header mode size ++ numbers s.dc) (numbers s.low), long_dc, numbers-length s.low, fit.low.len)))

  saved-planes : planes_in (file mode size s) (count_in (file mode size s)) ≡ s
  saved-planes = rw (at_count, saved-dc, saved_low, saved-high)

pub load-undoes-save : LoadUndoesSave
unfolding load_number header_number
load-undoes-save mode size shape s was fit lent =
    let f = file mode size s in
    let n = at_count mode size shape s fit in
    let lengths : Lengths (count_in f) was = record { dc = lent.dc ∙ sym n; low = lent.low ∙ ap (λ (k : ℕ). 15 * k) (sym n); high = lent.high ∙ ap (λ (k : ℕ). 240 * k) (sym n) } in
    let head = fits-header f (saved-header mode size shape s fit) in
    let done : load_number f was ≡ 0 = passed_first (header_checks f) (plane_checks (count_in f) was) refl head ∙ fits-planes (count_in f) was lengths in
    record {
      answer = sym (answer-done (load_number f was) f done) ∙ rw (at_mode mode size shape s fit, at_width mode size shape s fit, at_height mode size shape s fit);
      planes = settled-done (load_number f was) (planes_in f (count_in f)) was done ∙ saved-planes mode size shape s fit;
    }

-- ---- the bytes from which a word was read are those that it writes

four_on : (a i : ℕ) → a + 4 * suc i ≡ a + 4 + 4 * i
four_on a i = omega arith

low_digit : (a b c d : ℕ) → a < 256 → b < 256 → c < 256 → d < 256 → word (a + 256 * b + 65536 * c + 16777216 * d) ≡ a ∷ b ∷ c ∷ d ∷ []
low_digit a b c d p q r t =
    let x = a + 256 * b + 65536 * c + 16777216 * d in
    let e0 : x % 256 ≡ a = omega arith in
    let d1 : x / 256 ≡ b + 256 * c + 65536 * d = omega arith in
    let e1 : (b + 256 * c + 65536 * d) % 256 ≡ b = omega arith in
    let d2 : x / 65536 ≡ c + 256 * d = omega arith in
    let e2 : (c + 256 * d) % 256 ≡ c = omega arith in
    let d3 : x / 16777216 ≡ d = omega arith in
    let e3 : d % 256 ≡ d = omega arith in
    rw (e0, d1, e1, d2, e2, d3, e3)

module _ (b : List ℕ) (bytes : Bytes b) where
  drop-one : (a next : ℕ) → a + 1 ≡ next → a < length b → drop a b ≡ get_or b a 0 ∷ drop next b
  drop-one a next e h = drop-cons b a 0 h ∙ ap (λ (k : ℕ). get_or b a 0 ∷ drop k b) (sym (add-one a) ∙ e)

  four : (a : ℕ) → a + 4 ≤ length b → take 4 (drop a b) ≡ get_or b a 0 ∷ get_or b (a + 1) 0 ∷ get_or b (a + 2) 0 ∷ get_or b (a + 3) 0 ∷ []
  four a h =
      rw (
        drop-one a (a + 1) refl (omega arith),
        drop-one (a + 1) (a + 2) (omega arith) (omega arith),
        drop-one (a + 2) (a + 3) (omega arith) (omega arith),
        drop-one (a + 3) (a + 4) (omega arith) (omega arith),
      )

  four_bytes : (a : ℕ) → a + 4 ≤ length b → word (word_at b a) ≡ take 4 (drop a b)
  unfolding word_at
  four_bytes a h = low_digit _ _ _ _ (bytes a) (bytes (a + 1)) (bytes (a + 2)) (bytes (a + 3)) ∙ sym (four a h)

  word_small : (a : ℕ) → word_at b a < 4294967296
  unfolding word_at
  word_small a = omega (arith, bytes a, bytes (a + 1), bytes (a + 2), bytes (a + 3))

  words_of : (n a : ℕ) → a + 4 * n ≤ length b → words (words_at b a n) ≡ take (4 * n) (drop a b)
  unfolding words
  words_of zero a h = refl
  words_of (suc n) a h =
      let e : 4 * suc n ≡ 4 + 4 * n = omega arith in
      rw (e, take-add 4 (4 * n) (drop a b), drop-drop 4 a b, ← four_bytes a (omega arith), ← words_of n (a + 4) (omega arith))

  numbers_are : (n a : ℕ) → map low32 (numbers_at b a n) ≡ words_at b a n
  unfolding numbers_at table
  numbers_are zero a = refl
  numbers_are (suc n) a =
      rw (zero_more a, number_word (word_at b a) (word_small a), ← numbers_are n (a + 4))
      (ap (λ (l : List ℤ). word_at b a ∷ map low32 l) (table_same n (λ i. number_at b (a + 4 * suc i)) (λ i. number_at b (a + 4 + 4 * i)) (λ i l. ap (λ (k : ℕ). number_at b k) (four_on a i))))

  numbers_of : (n a : ℕ) → a + 4 * n ≤ length b → numbers (numbers_at b a n) ≡ take (4 * n) (drop a b)
  unfolding numbers
  numbers_of n a h = ap words (numbers_are n a) ∙ words_of n a h

  -- what follows the first bytes
  next_part : (done vs : List ℕ) (a k next : ℕ) → done ≡ take a b → vs ≡ take k (drop a b) → a + k ≡ next → done ++ vs ≡ take next b
  next_part done vs a k next p q e = rw (p, q, ← e) (sym (take-add a k b))

  header_of : HeaderFits b → header (word_at b 0) (size_in b) ≡ take header_bytes b
  unfolding header
  header_of f = ap words the-words ∙ words_of header_length 0 f.enough
    where
      the-words : header_words (word_at b 0) (size_in b) ≡ words_at b 0 header_length
      the-words = rw (f.dc, f.low, f.high, f.end, f.last)

  file-of : HeaderFits b → file (word_at b 0) (size_in b) (planes_in b (count_in b)) ≡ b
  unfolding file
  file-of f =
      let n = count_in b in
      let q0 = header_of f in
      let q1 = next_part _ (numbers (numbers_at b dc_offset n)) dc_offset (4 * n) (low_offset n) q0 (numbers_of n dc_offset (omega (arith, f.whole))) (omega arith) in
      let q2 = next_part _ (numbers (numbers_at b (low_offset n) (15 * n))) (low_offset n) (4 * (15 * n)) (high_offset n) q1 (numbers_of (15 * n) (low_offset n) (omega (arith, f.whole))) (omega arith) in
      let q3 = next_part _ (numbers (numbers_at b (high_offset n) (240 * n))) (high_offset n) (4 * (240 * n)) (total n) q2 (numbers_of (240 * n) (high_offset n) (omega (arith, f.whole))) (omega arith) in
      q3 ∙ take_all (total n) b (omega (arith, f.whole))

saves_back : (bytes : List ℕ) → Bytes bytes → HeaderFits bytes → (was : List ℕ) → length was ≡ length bytes
    → (s : Planes) → s ≡ planes_in bytes (count_in bytes) → Saves (mode_in bytes) (size_in bytes) s was bytes
unfolding numbers_at
saves_back bytes small f was long s e =
    let lengths : Lengths (count_in bytes) s =
    rw e (record { dc = length-table _ _; low = length-table _ _; high = length-table _ _ }) in
    let done = fits-save (mode_in bytes) (size_in bytes) s was f.shape lengths (long ∙ f.whole) in
    record {
      done = done;
      writes = settled-done _ (file (mode_in bytes) (size_in bytes) s) was done ∙ rw e (file-of bytes small f);
    }

pub save-undoes-load : SaveUndoesLoad
unfolding load_number header_number
save-undoes-load bytes small into e was long =
    saves_back bytes small (header-fits bytes (both_pass (header_checks bytes) (plane_checks (count_in bytes) into) e).0) was long _
    (settled-done (load_number bytes into) (planes_in bytes (count_in bytes)) into e)
