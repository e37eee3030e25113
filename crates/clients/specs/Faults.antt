-- What is asked of each call's arguments, in the paper's figures: the number of the first fault, or 0 where there is none.
use Rattle.std.specs.Prelude.{ℕ, ◌+◌, ◌*◌, ◌<◌, ◌≡◌, List, ◌⊎◌, ℤ, length}
use Rattle.picture.specs.declared.size.Size.{Size}
use Rattle.picture.specs.Planes.{Planes}
use Rattle.plane_file.specs.Words.{word_at}
use Rattle.bands.specs.declared.steps.Steps.{Steps}
use Rattle.restore.specs.Restore.{restored_planes}
use Rattle.corollaries.specs.Sizes.{of}
use Rattle.corollaries.specs.Finder.{ProductsFit}
use Rattle.clients.specs.Right.{count}

-- where this fault is, the number is k; where it is not, the rest says which
pub record Fault (k : ℕ) (F : Type 0) (rest : ℕ → Type 0) (number : ℕ) : Type 0 where
  pub here : F → number ≡ k
  pub later : (F → ⊥) → rest number

abbrev pub none : ℕ → Type 0
none number = number ≡ 0

-- mode 0, 1 or 2; W from 1 to 525 and H from 1 to 413
abbrev pub shape_faults : ℕ → Size → (ℕ → Type 0) → ℕ → Type 0
shape_faults mode size rest =
    Fault 1 (2 < mode)
    (Fault 2 ((size.width.0 < 1) ⊎ (525 < size.width.0))
    (Fault 3 ((size.height.0 < 1) ⊎ (413 < size.height.0)) rest))

-- a slice that is not as long as this
abbrev pub length_fault : ℕ → ℕ → ℕ → (ℕ → Type 0) → ℕ → Type 0
length_fault k length wanted = Fault k (length ≡ wanted → ⊥)

abbrev pub plane_faults : ℕ → Planes → (ℕ → Type 0) → ℕ → Type 0
plane_faults n s rest = length_fault 4 (length s.dc) n (length_fault 5 (length s.low) (15 * n) (length_fault 6 (length s.high) (240 * n) rest))

abbrev pub low_faults : ℕ → List ℤ → List ℤ → (ℕ → Type 0) → ℕ → Type 0
low_faults n dc low rest = length_fault 4 (length dc) n (length_fault 5 (length low) (15 * n) rest)

abbrev pub sample_fault : ℕ → List ℤ → (ℕ → Type 0) → ℕ → Type 0
sample_fault n samples = length_fault 7 (length samples) (256 * n)

-- inverse: 1 to 7
pub record InverseFaults (mode : ℕ) (size : Size) (s : Planes) (samples : List ℤ) (number : ℕ) : Type 0 where
  pub faults : shape_faults mode size (plane_faults (count size) s (sample_fault (count size) samples none)) number

-- forward: 1, 2, 3, 7, 4, 5, 6
pub record ForwardFaults (mode : ℕ) (size : Size) (samples : List ℤ) (s : Planes) (number : ℕ) : Type 0 where
  pub faults : shape_faults mode size (sample_fault (count size) samples (plane_faults (count size) s none)) number

-- save: 1 to 6, then 12
pub record SaveFaults (mode : ℕ) (size : Size) (s : Planes) (bytes : List ℕ) (number : ℕ) : Type 0 where
  pub faults : shape_faults mode size (plane_faults (count size) s (length_fault 12 (length bytes) (32 + 1024 * count size) none)) number

-- find_step: 1, 2, 3, 7 for the samples and for the second samples, 4, 5, 6
pub record FindFaults (mode : ℕ) (size : Size) (samples second : List ℤ) (s : Planes) (number : ℕ) : Type 0 where
  pub faults : shape_faults mode size (sample_fault (count size) samples (sample_fault (count size) second (plane_faults (count size) s none))) number

-- quarter view: 1 to 5, then 8
pub record QuarterFaults (mode : ℕ) (size : Size) (dc low view : List ℤ) (number : ℕ) : Type 0 where
  pub faults : shape_faults mode size (low_faults (count size) dc low (length_fault 8 (length view) (16 * count size) none)) number

-- where the planes of n macroblocks start, and the bytes in all
pub record Placed (bytes : List ℕ) (n : ℕ) : Type 0 where
  pub dc : word_at bytes 12 ≡ 32
  pub low : word_at bytes 16 ≡ 32 + 4 * n
  pub high : word_at bytes 20 ≡ 32 + 64 * n
  pub total : word_at bytes 24 ≡ 32 + 1024 * n

-- a file's header: 9, 1, 2, 3, 10, 11; then 12 where the bytes are not as many as the total
abbrev pub count_in : List ℕ → ℕ
count_in bytes = word_at bytes 4 * word_at bytes 8

abbrev pub start_faults : List ℕ → (ℕ → Type 0) → ℕ → Type 0
start_faults bytes rest =
    Fault 9 (length bytes < 32)
    (shape_faults (word_at bytes 0) (of (word_at bytes 4) (word_at bytes 8)) (length_fault 10 (word_at bytes 28) 0 (Fault 11 (Placed bytes (count_in bytes) → ⊥) rest)))

abbrev pub total_fault : List ℕ → (ℕ → Type 0) → ℕ → Type 0
total_fault bytes = length_fault 12 (length bytes) (32 + 1024 * count_in bytes)

abbrev pub header_faults : List ℕ → (ℕ → Type 0) → ℕ → Type 0
header_faults bytes rest = start_faults bytes (total_fault bytes rest)

pub record HeaderFaults (bytes : List ℕ) (number : ℕ) : Type 0 where
  pub faults : header_faults bytes none number

-- load: as its header, then 4, 5, 6
pub record LoadFaults (bytes : List ℕ) (s : Planes) (number : ℕ) : Type 0 where
  pub faults : header_faults bytes (plane_faults (count_in bytes) s none) number

-- program: as a file's header, but 13 for more than 16 macroblocks before 12
pub record ProgramFaults (bytes : List ℕ) (number : ℕ) : Type 0 where
  pub faults : start_faults bytes (Fault 13 (16 < count_in bytes) (total_fault bytes none)) number

-- a step index above 255
abbrev pub index_fault : Steps → (ℕ → Type 0) → ℕ → Type 0
index_fault steps = Fault 14 ((255 < steps.dc) ⊎ ((255 < steps.low) ⊎ (255 < steps.high)))

-- quantise: 1, 2, 3, 14 for an index above 255, then 4, 5, 6 for the planes read and for those written
abbrev pub band_faults : ℕ → Size → Steps → Planes → Planes → (ℕ → Type 0) → ℕ → Type 0
band_faults mode size steps read written rest =
    shape_faults mode size
    (index_fault steps (plane_faults (count size) read (plane_faults (count size) written rest)))

pub record QuantiseFaults (mode : ℕ) (size : Size) (steps : Steps) (read written : Planes) (number : ℕ) : Type 0 where
  pub faults : band_faults mode size steps read written none number

-- restore: as quantise, then 15 for a product outside the signed 32-bit range
pub record RestoreFaults (mode : ℕ) (size : Size) (steps : Steps) (read written : Planes) (number : ℕ) : Type 0 where
  pub faults : band_faults mode size steps read written (Fault 15 (ProductsFit (restored_planes steps read) → ⊥) none) number

-- forecast: 1, 2, 3
pub record ForecastFaults (mode : ℕ) (size : Size) (number : ℕ) : Type 0 where
  pub faults : shape_faults mode size none number
