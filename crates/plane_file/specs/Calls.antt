-- What header, load and save answer, and what load and save leave in the slices lent to them: the result where the number is 0, and what was there where they refuse.
use Rattle.std.specs.Prelude.{ℕ, List}
use Rattle.picture.specs.declared.size.Size.{Size}
use Rattle.picture.specs.Numbers.{settled}
use Rattle.picture.specs.Planes.{Planes}
use Rattle.plane_file.specs.declared.header.Header.{Header}
use Rattle.plane_file.specs.Header.{answer}
use Rattle.plane_file.specs.Layout.{file, planes_in}
use Rattle.plane_file.specs.Numbers.{count_in, header_number, load_number, save_number}

abbrev pub header_answer : List ℕ → Header
header_answer bytes = answer (header_number bytes) bytes

abbrev pub load_answer : List ℕ → Planes → Header
load_answer bytes was = answer (load_number bytes was) bytes

abbrev pub loaded : List ℕ → Planes → Planes
loaded bytes was = settled (load_number bytes was) (planes_in bytes (count_in bytes)) was

abbrev pub saved : ℕ → Size → Planes → List ℕ → List ℕ
saved mode size s was = settled (save_number mode size s was) (file mode size s) was
