-- Two's complement: a number and its remainder on division by 2^32 give each other, by cases on the sign.
use Prim.Native.Nat.{ℕ, ◌%◌, ◌<◌}
use mathlib.Core.Path.{◌≡◌, ap, ◌∙◌}
use native.Mathlib.Omega.{arith}
use lib.IntN.{ℤ, pos, negsuc}
use mir.Val.{SFits, of_z, to_z}
use mir.Facts.{of_z-to_z}
use mir.Syntax.{w32}
use Rattle.lifting.specs.Wrap.{low32, wrap}
use Rattle.lifting.proofs.WrapLaws.{wrap-same, wrap_id, wrap-fits}

pub low_small : (z : ℤ) → low32 z < 4294967296
low_small (pos n) = omega arith
low_small (negsuc n) = omega arith

-- ---- a word to its number

pub wrap-word : (x : ℕ) → x < 4294967296 → wrap (pos x) ≡ to_z w32 x
unfolding wrap
wrap-word x h = let e : x % 4294967296 ≡ x = omega arith in ap (to_z w32) e

-- ---- each undoes the other

pub word_number : (x : ℤ) → SFits w32 x → wrap (pos (low32 x)) ≡ x
word_number x f = wrap-same (pos (low32 x)) x (omega (arith, low_small x)) ∙ wrap_id f

low_bits : (x : ℤ) → SFits w32 x → low32 x ≡ of_z w32 x
low_bits (pos n) f = let h = f.sfits in omega arith
low_bits (negsuc n) f = let h = f.sfits in omega arith

pub number_word : (x : ℕ) → x < 4294967296 → low32 (wrap (pos x)) ≡ x
number_word x h = low_bits (wrap (pos x)) (wrap-fits (pos x)) ∙ ap (of_z w32) (wrap-word x h) ∙ of_z-to_z {w = w32} (record { fits = h })
