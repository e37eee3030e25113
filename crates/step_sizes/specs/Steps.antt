-- Steps, by their index from 0 to 255 (02, a).
use Rattle.std.specs.Prelude.{ℕ, ◌+◌, ◌-◌, ◌*◌, ◌/◌, ◌%◌, ◌^◌, cond, ltb}

-- index 0 gives 1, 1 to 15 give the index, and above that (16 + index mod 16) × 2^(index div 16 − 1)
unfoldable pub step_of : ℕ → ℕ
step_of index = cond (ltb index 1) 1 (cond (ltb index 16) index ((16 + index % 16) * 2 ^ (index / 16 - 1)))

-- the step of index 255
abbrev pub largest_step : ℕ
largest_step = 507904

-- what a caller is told who asks for the step of an index: 0 for one above 255
abbrev pub step_answer : ℕ → ℕ
step_answer index = cond (ltb 255 index) 0 (step_of index)
