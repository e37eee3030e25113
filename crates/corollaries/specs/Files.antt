-- Load and save undo each other, and what every file looks like.
use Rattle.std.specs.Prelude.{ℕ, ◌*◌, ◌<◌, ◌≡◌, List, length, get_or}
use Rattle.picture.specs.Planes.{Planes}
use Rattle.plane_file.specs.Words.{word_at}
use Rattle.plane_file.specs.Layout.{file}
use Rattle.plane_file.specs.Numbers.{load_number, save_number}
use Rattle.plane_file.specs.Calls.{load_answer, loaded, saved}
use Rattle.corollaries.specs.Sizes.{of, EverySize}
use Rattle.corollaries.specs.Planes.{PlanesOf}

-- what was saved loads into any planes of its lengths: mode, W, H and every number are as they were
abbrev pub LoadGivesBack : Type 0
LoadGivesBack =
    EverySize (λ mode W H. (s was : Planes) → PlanesOf (W * H) s
    → length was.dc ≡ W * H → length was.low ≡ 15 * (W * H) → length was.high ≡ 240 * (W * H)
    → ((load_answer (file mode (of W H) s) was).number ≡ 0)
    × ((load_answer (file mode (of W H) s) was).mode ≡ mode)
    × ((load_answer (file mode (of W H) s) was).size.width.0 ≡ W)
    × ((load_answer (file mode (of W H) s) was).size.height.0 ≡ H)
    × (loaded (file mode (of W H) s) was ≡ s))

-- what was loaded saves into the bytes that it was loaded from
abbrev pub SaveGivesBack : Type 0
SaveGivesBack =
    (bytes : List ℕ) → ((i : ℕ) → get_or bytes i 0 < 256) → (into : Planes) → load_number bytes into ≡ 0
    → (was : List ℕ) → length was ≡ length bytes
    → (save_number (word_at bytes 0) (of (word_at bytes 4) (word_at bytes 8)) (loaded bytes into) was ≡ 0)
    × (saved (word_at bytes 0) (of (word_at bytes 4) (word_at bytes 8)) (loaded bytes into) was ≡ bytes)
