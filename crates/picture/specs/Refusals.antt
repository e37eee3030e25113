-- The number of each check, by its name (01, "The numbers each operation gives"; 14 and 15: 02, a).
use Rattle.std.specs.Prelude.{ℕ, Result, Ok, Err}
use Rattle.picture.specs.declared.refusals.Refusal.{Refusal}
use Rattle.picture.specs.declared.refusals.Refusal.TheVariants.{ModeRange, WidthRange, HeightRange, DcLength, LowPassLength, HighPassLength, SamplesLength, ViewLength, FileTooShort, LastWord, Offsets, FileLength, TooManyMacroblocks, StepIndex, Product}

-- mode above 2; W outside 1 to 525; H outside 1 to 413
abbrev pub mode_range : ℕ
mode_range = 1

abbrev pub width_range : ℕ
width_range = 2

abbrev pub height_range : ℕ
height_range = 3

-- the length of a slice
abbrev pub dc_length : ℕ
dc_length = 4

abbrev pub low_pass_length : ℕ
low_pass_length = 5

abbrev pub high_pass_length : ℕ
high_pass_length = 6

abbrev pub samples_length : ℕ
samples_length = 7

abbrev pub view_length : ℕ
view_length = 8

-- a plane file: fewer bytes than a header has; the last word not zero; an offset or the total not as laid down; another length than the total
abbrev pub file_too_short : ℕ
file_too_short = 9

abbrev pub last_word : ℕ
last_word = 10

abbrev pub offsets : ℕ
offsets = 11

abbrev pub file_length : ℕ
file_length = 12

-- n above 16, in the program
abbrev pub too_many_macroblocks : ℕ
too_many_macroblocks = 13

-- a step index above 255; a product outside the signed 32-bit range
abbrev pub step_index : ℕ
step_index = 14

abbrev pub product : ℕ
product = 15

abbrev pub number_of_refusal : Refusal → ℕ
number_of_refusal ModeRange = mode_range
number_of_refusal WidthRange = width_range
number_of_refusal HeightRange = height_range
number_of_refusal DcLength = dc_length
number_of_refusal LowPassLength = low_pass_length
number_of_refusal HighPassLength = high_pass_length
number_of_refusal SamplesLength = samples_length
number_of_refusal ViewLength = view_length
number_of_refusal FileTooShort = file_too_short
number_of_refusal LastWord = last_word
number_of_refusal Offsets = offsets
number_of_refusal FileLength = file_length
number_of_refusal TooManyMacroblocks = too_many_macroblocks
number_of_refusal StepIndex = step_index
number_of_refusal Product = product

-- the number of a call: 0 where it is done, and else its refusal's
abbrev pub number_of : {A : Type 0} → Result A Refusal → ℕ
number_of (Ok x) = 0
number_of (Err refusal) = number_of_refusal refusal
