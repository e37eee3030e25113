-- Load and save undo each other, over whole files.
use Rattle.std.specs.Prelude.{ℕ, ◌<◌, ◌≡◌, List, length, get_or}
use Rattle.picture.specs.declared.size.Size.{Size}
use Rattle.picture.specs.Sizes.{Shape, macroblocks}
use Rattle.picture.specs.Planes.{Planes, PlanesOf, Lengths}
use Rattle.plane_file.specs.Header.{header_of, mode_in, size_in}
use Rattle.plane_file.specs.Layout.{file}
use Rattle.plane_file.specs.Numbers.{load_number, save_number}
use Rattle.plane_file.specs.Calls.{load_answer, loaded, saved}

-- loading these bytes is done, and gives this mode, this size and these planes
pub record Loads (bytes : List ℕ) (was : Planes) (mode : ℕ) (size : Size) (s : Planes) : Type 0 where
  pub answer : load_answer bytes was ≡ header_of 0 mode size
  pub planes : loaded bytes was ≡ s

-- a saved file loads into planes of its lengths, and gives back what was saved
abbrev pub LoadUndoesSave : Type 0
LoadUndoesSave =
    (mode : ℕ) (size : Size) → Shape mode size → (s was : Planes) → PlanesOf size s → Lengths (macroblocks size) was
    → Loads (file mode size s) was mode size s

-- saving this mode, this size and these planes is done, and writes these bytes
pub record Saves (mode : ℕ) (size : Size) (s : Planes) (was bytes : List ℕ) : Type 0 where
  pub done : save_number mode size s was ≡ 0
  pub writes : saved mode size s was ≡ bytes

-- each number a byte
abbrev pub Bytes : List ℕ → Type 0
Bytes bytes = (i : ℕ) → get_or bytes i 0 < 256

-- a file that loads is the one that saving what it gives writes
abbrev pub SaveUndoesLoad : Type 0
SaveUndoesLoad =
    (bytes : List ℕ) → Bytes bytes → (into : Planes) → load_number bytes into ≡ 0
    → (was : List ℕ) → length was ≡ length bytes
    → Saves (mode_in bytes) (size_in bytes) (loaded bytes into) was bytes
