-- The header's words as they are read, and what reading them answers.
use Rattle.std.specs.Prelude.{ℕ, zero, suc, ◌≡◌, Result, Ok, Err, List, get_or}
use Rattle.picture.specs.declared.refusals.Refusal.{Refusal}
use Rattle.picture.specs.declared.size.Size.{Size}
use Rattle.picture.specs.Refusals.{number_of_refusal}
use Rattle.plane_file.specs.declared.header.Header.{Header}
use Rattle.plane_file.specs.declared.header.Start.{Start}
use Rattle.plane_file.specs.declared.header.Words.{Words}
use Rattle.plane_file.specs.declared.layout.Layout.{Layout}
use Rattle.plane_file.specs.Layout.{header_length, dc_offset, low_offset, high_offset, total}
use Rattle.plane_file.specs.Words.{words_at}

-- a header's words by their names, in their order
abbrev pub by_name : List ℕ → Words
by_name ws =
    record {
      mode = get_or ws 0 0;
      width = get_or ws 1 0;
      height = get_or ws 2 0;
      dc = get_or ws 3 0;
      low = get_or ws 4 0;
      high = get_or ws 5 0;
      total = get_or ws 6 0;
      last = get_or ws 7 0;
    }

-- the words of a header, one after another from the first byte on
abbrev pub words_of : List ℕ → Words
words_of bytes = by_name (words_at bytes 0 header_length)

-- the mode and the size that they say
abbrev pub mode_in : List ℕ → ℕ
mode_in bytes = (words_of bytes).mode

abbrev pub size_of : ℕ → ℕ → Size
size_of W H = record { width = record { 0 = W }; height = record { 0 = H } }

abbrev pub size_in : List ℕ → Size
size_in bytes = size_of (words_of bytes).width (words_of bytes).height

-- and both as one
abbrev pub start_of : Words → Start
start_of w = record { mode = w.mode; size = size_of w.width w.height }

-- where the words say that the planes start and the file ends, and where they do with n macroblocks
abbrev pub layout_said : Words → Layout
layout_said w = record { dc = w.dc; low = w.low; high = w.high; total = w.total }

abbrev pub layout_of : ℕ → Layout
layout_of n = record { dc = dc_offset; low = low_offset n; high = high_offset n; total = total n }

abbrev pub header_of : ℕ → ℕ → Size → Header
header_of number mode size = record { number = number; mode = mode; size = size }

-- done: mode and size; refused: zeros in their place
abbrev pub answer : ℕ → List ℕ → Header
answer zero bytes = header_of 0 (mode_in bytes) (size_in bytes)
answer (suc k) bytes = header_of (suc k) 0 (size_of 0 0)

-- what is turned into the record for C
abbrev pub header_told : Result Start Refusal → Header
header_told (Ok start) = header_of 0 start.mode start.size
header_told (Err refusal) = header_of (number_of_refusal refusal) 0 (size_of 0 0)

abbrev pub GivesHeader : Result Start Refusal → Header → Type 0
GivesHeader told header = header ≡ header_told told
