-- Words and numbers in lists of bytes: what stands behind a part that has been written moves up by what is written next.
use Prim.Native.Nat.{ℕ, ◌+◌, ◌*◌, ◌≤◌, ◌<◌}
use mathlib.Core.Path.{◌≡◌, refl, sym, ap, ◌∙◌}
use mathlib.Core.List.{List, [], ◌∷◌, ◌++◌, append_assoc, append-nil, map}
use native.Mathlib.Omega.{arith}
use native.Mathlib.Numerals.{add-one}
use lib.ListN.{length, take, drop, get_or, length-append, length-map, take-append-drop}
use lib.Seq.{take_at, drop-append-add, drop-drop, take-suc, length-take-le}
use lib.IntN.{ℤ}
use Rattle.lifting.specs.Wrap.{low32}
use Rattle.plane_file.specs.Words.{word, words, numbers}

-- ---- one part after another

drop_past : (xs ys : List ℕ) (n k : ℕ) → length xs ≡ n → drop (n + k) (xs ++ ys) ≡ drop k ys
drop_past xs ys n k e = rw (← e) (drop-append-add xs ys k)

pub then_more : (done vs b : List ℕ) (at k : ℕ) {b1 b2 : List ℕ} → length done ≡ at
    → b1 ≡ done ++ drop at b → b2 ≡ take at b1 ++ vs ++ drop (at + k) b1 → b2 ≡ (done ++ vs) ++ drop (at + k) b
then_more done vs b at k e p q =
    q ∙ rw (p, take_at done (drop at b) at e, drop_past done (drop at b) at k e, drop-drop k at b)

pub then_at : (done vs b : List ℕ) (at k next : ℕ) {b1 b2 : List ℕ} → length done ≡ at → at + k ≡ next
    → b1 ≡ done ++ drop at b → b2 ≡ take at b1 ++ vs ++ drop (at + k) b1 → b2 ≡ (done ++ vs) ++ drop next b
then_at done vs b at k next e n p q = then_more done vs b at k e p q ∙ ap (λ (m : ℕ). (done ++ vs) ++ drop m b) n

-- ---- words one after another

words_append : (xs ys : List ℕ) → words (xs ++ ys) ≡ words xs ++ words ys
unfolding words
words_append [] ys = refl
words_append (x ∷ xs) ys = ap (λ (l : List ℕ). word x ++ l) (words_append xs ys)

pub words-length : (xs : List ℕ) → length (words xs) ≡ 4 * length xs
unfolding words
words-length [] = refl
words-length (x ∷ xs) = omega (arith, words-length xs)

words-one : (x : ℕ) → words (x ∷ []) ≡ word x
unfolding words
words-one x = refl

words_more : (xs : List ℕ) (i : ℕ) → i < length xs → words (take (i + 1) xs) ≡ words (take i xs) ++ word (get_or xs i 0)
words_more xs i h = rw (add-one i, take-suc xs i 0 h, words_append) (ap (λ (l : List ℕ). words (take i xs) ++ l) (words-one _))

-- of the words ws the first i are written at `at`
abbrev pub Written : List ℕ → List ℕ → ℕ → List ℕ → ℕ → Type 0
Written ws b at b1 i = b1 ≡ (take at b ++ words (take i ws)) ++ drop (at + 4 * i) b

pub none_written : (ws b : List ℕ) (at : ℕ) → Written ws b at b 0
unfolding words
none_written ws b at = sym (ap (λ (l : List ℕ). l ++ drop (at + 0) b) (append-nil (take at b)) ∙ rw (zero_more at) (take-append-drop at b))
  where
    zero_more : (n : ℕ) → n + 0 ≡ n
    zero_more n = omega arith

pub one_written : (ws b : List ℕ) (at i x : ℕ) {b1 b2 : List ℕ} → i < length ws → at + 4 * length ws ≤ length b
    → Written ws b at b1 i → x ≡ get_or ws i 0
    → b2 ≡ take (at + 4 * i) b1 ++ word x ++ drop (at + 4 * i + 4) b1 → Written ws b at b2 (i + 1)
one_written ws b at i x h fits w e q =
    rw (next, words_more ws i h, ← e, ← append_assoc) (then_more (take at b ++ words (take i ws)) (word x) b (at + 4 * i) 4 long w q)
  where
    next : at + 4 * (i + 1) ≡ at + 4 * i + 4
    next = omega arith

    long : length (take at b ++ words (take i ws)) ≡ at + 4 * i
    long = omega (arith, length-append (take at b) (words (take i ws)), words-length (take i ws), length-take-le at b (omega arith), length-take-le i ws (omega arith))

pub all-written : (ws b : List ℕ) (at i : ℕ) {b1 : List ℕ} → i ≡ length ws → Written ws b at b1 i
    → b1 ≡ take at b ++ words ws ++ drop (at + 4 * length ws) b
all-written ws b at i e w = w ∙ rw (e, take_whole ws)
  where
    take_whole : (l : List ℕ) → take (length l) l ≡ l
    take_whole [] = refl
    take_whole (x ∷ l) = ap (λ (k : List ℕ). x ∷ k) (take_whole l)

-- ---- a plane's numbers

pub numbers-length : (xs : List ℤ) → length (numbers xs) ≡ 4 * length xs
unfolding numbers
numbers-length xs = words-length (map low32 xs) ∙ ap (λ (n : ℕ). 4 * n) (length-map xs low32)
