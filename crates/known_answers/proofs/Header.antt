-- The bytes are computed.
use mathlib.Core.Path.{refl}
use Rattle.plane_file.specs.Words.{words}
use Rattle.plane_file.specs.Layout.{header}
use Rattle.known_answers.specs.Header.{HeaderBytes}

pub header-bytes : HeaderBytes
unfolding header words
header-bytes = refl
