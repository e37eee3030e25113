-- The values of 01 for files, computed: 31 bytes, a sound file of 1 by 1, and the same with one byte more; and a word of each sign as bytes.
use mathlib.Core.Path.{◌≡◌, refl}
use mathlib.Core.List.{[], ◌∷◌, ◌++◌}
use lib.ListN.{replicate}
use lib.IntN.{pos, negsuc}
use Rattle.lifting.specs.Wrap.{wrap}
use Rattle.picture.specs.Planes.{Planes, planes}
use Rattle.plane_file.specs.Words.{words, word_at, numbers, number_at}
use Rattle.plane_file.specs.Layout.{header, file}
use Rattle.plane_file.specs.Header.{header_of, size_of}
use Rattle.plane_file.specs.Numbers.{header_number}
use Rattle.plane_file.specs.Calls.{header_answer}

-- DC 64, the rest 0
small : Planes
small = planes (pos 64 ∷ []) (replicate 15 (pos 0)) (replicate 240 (pos 0))

too_short : header_number (replicate 31 0) ≡ 9
unfolding header_number word_at
too_short = refl

sound : header_answer (file 2 (size_of 1 1) small) ≡ header_of 0 2 (size_of 1 1)
unfolding header_number word_at file header words numbers small
sound = refl

one_byte_more : header_answer (file 2 (size_of 1 1) small ++ (0 ∷ [])) ≡ header_of 12 0 (size_of 0 0)
unfolding header_number word_at file header words numbers small
one_byte_more = refl

minus-two : numbers (negsuc 1 ∷ []) ≡ 254 ∷ 255 ∷ 255 ∷ 255 ∷ []
unfolding numbers words
minus-two = refl

back-again : number_at (254 ∷ 255 ∷ 255 ∷ 255 ∷ []) 0 ≡ negsuc 1
unfolding word_at wrap
back-again = refl
