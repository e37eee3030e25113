-- A text laid over a part of lent bytes, and two texts one behind the other that are one.
use Rattle.std.proofs.Common.{◌≡◌, ℕ, ◌+◌, ◌-◌, ◌≤◌, List, ◌++◌, length, take, drop, ap, ◌∙◌, append_assoc, add_assoc, arith, length-append, length-take, length-drop}
use lib.Seq.{take_at, drop_at, drop-drop, length-take-le}
use borrow.Rule.Slice.PartMut.{put_mid}
use Rattle.decimal.specs.Text.{over}

-- a part of the bytes that is replaced by a text of its length
pub over_part : (b t : List ℕ) (at : ℕ) → at + length t ≤ length b → put_mid at (at + length t - at) b t ≡ over b at t
unfolding over
over_part b t at h =
    let e : at + length t - at ≡ length t = omega arith in
    rw (e, drop-drop (length t) at b, append_assoc (take at b) t)

pub length_over : (b : List ℕ) (at : ℕ) (t : List ℕ) → at + length t ≤ length b → length (over b at t) ≡ length b
unfolding over
length_over b at t h = simp (length-append, length-take, length-drop) (omega arith)

front_length : (b : List ℕ) (at : ℕ) (s : List ℕ) → at ≤ length b → length (take at b ++ s) ≡ at + length s
front_length b at s h = length-append (take at b) s ∙ ap (λ (n : ℕ). n + length s) (length-take-le at b h)

rest : (b : List ℕ) (at : ℕ) (s t : List ℕ) → length (take at b ++ s) ≡ at + length s
    → drop (at + length s + length t) ((take at b ++ s) ++ drop (at + length s) b) ≡ drop (at + length s + length t) b
rest b at s t e =
    rw (← drop-drop (length t) (at + length s) ((take at b ++ s) ++ drop (at + length s) b), drop_at (take at b ++ s) (drop (at + length s) b) (at + length s) e)
    (drop-drop (length t) (at + length s) b)

pub over-over : (b : List ℕ) (at : ℕ) (s t : List ℕ) → at ≤ length b → over (over b at s) (at + length s) t ≡ over b at (s ++ t)
unfolding over
over-over b at s t h =
    let e = front_length b at s h in
    rw (take_at (take at b ++ s) (drop (at + length s) b) (at + length s) e, append_assoc (take at b) s t, length-append, ← add_assoc)
    (ap (λ (l : List ℕ). (take at b ++ (s ++ t)) ++ l) (rest b at s t e))

-- a text behind the text that is there
pub then_text : (b o : List ℕ) {p : List ℕ} (at : ℕ) {e : ℕ} (s t : List ℕ) → at ≤ length b → o ≡ over b at s → e ≡ at + length s → p ≡ over o e t → p ≡ over b at (s ++ t)
then_text b o at s t h q r w = w ∙ rw (q, r) (over-over b at s t h)
