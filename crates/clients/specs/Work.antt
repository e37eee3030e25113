-- The figures of a forecast, by the mode (02, b and f).
use Rattle.std.specs.Prelude.{ℕ, ◌+◌, ◌-◌, ◌*◌, ◌≡◌}
use Rattle.picture.specs.declared.size.Size.{Size}
use Rattle.forecast.specs.declared.Work.{Work}
use Rattle.clients.specs.Right.{count}

-- where p and q squares meet, and along their edges and at their corners
abbrev pub inner : ℕ → ℕ → ℕ
inner p q = (p - 1) * (q - 1)

abbrev pub border : ℕ → ℕ → ℕ
border p q = 4 * (p - 1) + 4 * (q - 1) + 4

-- every macroblock has a core at level one and 16 at level two, and 1024 bytes of planes and of samples; mode 1 filters level two, and mode 2 both
pub record Forecast (mode : ℕ) (size : Size) (r : Work) : Type 0 where
  pub cores : r.cores ≡ count size + 4 * size.width.0 * (4 * size.height.0)
  pub bytes_of_planes : r.plane_bytes ≡ 1024 * count size
  pub bytes_of_samples : r.sample_bytes ≡ 1024 * count size
  pub none : mode ≡ 0 → (r.square_filters ≡ 0) × (r.four_filters ≡ 0)
  pub one : mode ≡ 1 → (r.square_filters ≡ inner (4 * size.width.0) (4 * size.height.0)) × (r.four_filters ≡ border (4 * size.width.0) (4 * size.height.0))
  pub both : mode ≡ 2 → (r.square_filters ≡ inner size.width.0 size.height.0 + inner (4 * size.width.0) (4 * size.height.0))
      × (r.four_filters ≡ border size.width.0 size.height.0 + border (4 * size.width.0) (4 * size.height.0))

pub record NoForecast (r : Work) : Type 0 where
  pub cores : r.cores ≡ 0
  pub square-filters : r.square_filters ≡ 0
  pub four-filters : r.four_filters ≡ 0
  pub bytes_of_planes : r.plane_bytes ≡ 0
  pub bytes_of_samples : r.sample_bytes ≡ 0
